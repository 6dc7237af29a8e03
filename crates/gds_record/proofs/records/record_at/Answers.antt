use Rattle.std.proofs.Common.{◌≡◌, ◌∙◌, ◌+◌, refl, arith, sym, ap}
use Rattle.gds_record.specs.declared.records.Framing.TheVariants as faults
use Rattle.gds_record.specs.Faults.{HasUnknownHead, HasBadContent}
use Rattle.gds_record.specs.Framing.{length_at, IsRecordAt}
use Rattle.gds_record.proofs.HeadLemmas.{head_of-kind_with_head, no_kind}
use Rattle.gds_record.proofs.FramingLemmas.{allowed_along, whole_record, only_record, record_no_fault, only_fault, fault_no_record}
use Rattle.gds_record.proofs.records.record_at.Goals as goal

unknown_head : (c : goal.In_default) → HasUnknownHead c.args.bytes.now c.args.at
unknown_head c =
    let bytes = c.args.bytes.now in
    let stated : c.from-length.result ≡ length_at bytes c.args.at = c.from-length.ensures ∙ c.unsigned2.ensures in
    record {
      whole = whole_record bytes c.args.at c.from-length.result c.requires (omega arith) stated (omega arith) (omega arith) (omega arith);
      unknown = λ kind. rw (← c.unsigned2-2.ensures) (no_kind c.unsigned2-2.result (sym c.kind_of.ensures ∙ c.in_default.is) kind);
    }

pub returns-in_default-clause-found : goal.returns-in_default-clause-found
returns-in_default-clause-found c = fault_no_record c.args.bytes.now c.args.at faults.Kind (unknown_head c)

pub returns-in_default-clause-fault : goal.returns-in_default-clause-fault
returns-in_default-clause-fault c = only_fault c.args.bytes.now c.args.at faults.Kind (unknown_head c)

bad_content : (c : goal.Then-not-is_allowed) → HasBadContent c.args.bytes.now c.args.at c.in-Some.kind
bad_content c =
    let bytes = c.args.bytes.now in
    let stated : c.from-length.result ≡ length_at bytes c.args.at = c.from-length.ensures ∙ c.unsigned2.ensures in
    let found = head_of-kind_with_head c.unsigned2-2.result c.in-Some.kind (sym c.kind_of.ensures ∙ c.in-Some.is) in
    record {
      whole = whole_record bytes c.args.at c.from-length.result c.requires (omega arith) stated (omega arith) (omega arith) (omega arith);
      head = sym c.unsigned2-2.ensures ∙ sym found;
      size = λ right.
          let yes = c.is_allowed.ensures.1 (allowed_along _ _ _ _ (sym c.content_length.ensures) (sym stated) right) in cc;
    }

pub returns-then-not-is_allowed-clause-found : goal.returns-then-not-is_allowed-clause-found
returns-then-not-is_allowed-clause-found c = fault_no_record c.args.bytes.now c.args.at faults.Size (c.in-Some.kind, bad_content c)

pub returns-then-not-is_allowed-clause-fault : goal.returns-then-not-is_allowed-clause-fault
returns-then-not-is_allowed-clause-fault c = only_fault c.args.bytes.now c.args.at faults.Size (c.in-Some.kind, bad_content c)

stands : (c : goal.Else-not-is_allowed)
    → IsRecordAt c.args.bytes.now c.args.at
    (record { kind = c.in-Some.kind; first = c.args.at + 4; next = c.args.at + c.from-length.result })
stands c =
    let bytes = c.args.bytes.now in
    let stated : c.from-length.result ≡ length_at bytes c.args.at = c.from-length.ensures ∙ c.unsigned2.ensures in
    let found = head_of-kind_with_head c.unsigned2-2.result c.in-Some.kind (sym c.kind_of.ensures ∙ c.in-Some.is) in
    record {
      whole = whole_record bytes c.args.at c.from-length.result c.requires (omega arith) stated (omega arith) (omega arith) (omega arith);
      head = sym c.unsigned2-2.ensures ∙ sym found;
      content = allowed_along _ _ _ _ c.content_length.ensures stated (c.is_allowed.ensures.0 c.if-not-is_allowed.false);
      first = refl;
      next = ap (λ n. c.args.at + n) stated;
    }

pub returns-clause-found : goal.returns-clause-found
returns-clause-found c = only_record c.args.bytes.now c.args.at _ (stands c)

pub returns-clause-fault : goal.returns-clause-fault
returns-clause-fault c = record_no_fault c.args.bytes.now c.args.at _ (stands c)
