use Rattle.mdp_job.proofs.Taken.{few_shots}
use Rattle.mdp_job.proofs.listing.say_file.Goals as goal

pub say_listing-requires : goal.say_listing-requires
say_listing-requires g c = record {
  few = rw c.as_slice.ensures (few_shots c.requires.bytes c.args.file.now.unit c.args.file.now.pair c.args.file.now.shots c.requires.form c.requires.short);
}
