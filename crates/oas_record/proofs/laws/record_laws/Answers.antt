use Rattle.std.proofs.Common.{ap}
use Rattle.oas_record.proofs.RecordReaders.{one_record, none_begins}
use Rattle.oas_record.proofs.laws.record_laws.Goals as goal

pub returns : goal.returns
returns c = record {
  one_record = λ bytes at tables r s next last h k.
      let same = (one_record bytes at tables).one (r, next) (s, last) h k in (ap (λ p. p.0) same, ap (λ p. p.1) same);
  record_or_fault = λ bytes at tables r next bad h f. (one_record bytes at tables).apart (r, next) bad h f;
  one_fault = λ bytes at tables. (one_record bytes at tables).cause;
  none_begins = none_begins;
}
