-- The packed text of a shot file's shots, as it is worked out.
use Rattle.std.proofs.Common.{length, refl}
use Rattle.mdp_job.specs.ShotFiles.{ShotData, PackedShots, pair_or, packed_of}
use Rattle.shot_repeat.specs.Packer.{packed_records}
use Rattle.shot_repeat.proofs.ForCallers.{text_is_packed}

abbrev pub packed_shots : (s : ShotData) → PackedShots s
packed_shots s = record {
  records = length (packed_records (pair_or s.pair).layer (pair_or s.pair).datatype s.shots);
  text = packed_of s;
  is = record {
    records = packed_records (pair_or s.pair).layer (pair_or s.pair).datatype s.shots;
    packing = text_is_packed s.unit (pair_or s.pair).layer (pair_or s.pair).datatype s.shots;
    number = refl;
  };
}
