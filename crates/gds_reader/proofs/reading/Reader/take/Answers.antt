use Rattle.std.proofs.Common.{◌≡◌, ◌++◌, refl, sym, ap, ◌∙◌, inl, inr}
use Rattle.geo_stream.proofs.ForCallers.{for_fault_weaker}
use Rattle.gds_record.specs.declared.kinds.Kind.TheVariants.{Xy, StrName}
use Rattle.gds_reader.specs.Meaning.{wanted_at, cells_at}
use Rattle.gds_reader.specs.Names.{IsTwice}
use Rattle.gds_reader.specs.Readers.{IsRefused, place_behind}
use Rattle.gds_reader.specs.Refused.{IsRefusedBy}
use Rattle.gds_reader.specs.Values.{KeepsGdsiiRule, KeepsGdsiiRules}
use Rattle.gds_reader.proofs.reading.Reader.take.Goals as goal
use Rattle.gds_reader.proofs.TakeLemmas.{some_next, next_is, kind_cases, refused_xy}

pub returns-in-Some-broken_rule-clause-refused : goal.returns-in-Some-broken_rule-clause-refused
returns-in-Some-broken_rule-clause-refused c = λ past wanted same reader.
    inr (inl (record {
      some = some_next (place_behind past) c.args.self.now.place c.in-Some.place c.args.current reader.place (sym c.after.ensures ∙ c.in-Some.is);
      rule = c.in-Some-broken_rule.rule;
      broken = c.in-Some-broken_rule.ensures.broken past wanted reader.element same;
      bad_is = refl;
    }))

pub returns-in-Err-clause-refused : goal.returns-in-Err-clause-refused
returns-in-Err-clause-refused c = λ past wanted same reader.
    for_fault_weaker (IsTwice c.args.bytes.now past c.args.current c.args.at)
    (IsRefused c.args.bytes.now c.args.unit wanted past c.args.current c.args.at) c.in-Err.refusal
    (λ bad found. inr (inr (inr (record {
      some = some_next (place_behind past) c.args.self.now.place c.in-Some.place c.args.current reader.place (sym c.after.ensures ∙ c.in-Some.is);
      rules = c.in-None.ensures.kept past wanted reader.element same (λ xy. absurd (let k : StrName ≡ Xy = sym found.0 ∙ xy in cc));
      kind = found.0;
      first = found.1;
      found = found.2;
      bad_is = found.3;
    }))))
    (c.in-Err.ensures.twice past reader.names)

pub returns-in-Err-built-clause-refused : goal.returns-in-Err-built-clause-refused
returns-in-Err-built-clause-refused c = λ past wanted same reader.
    let drawn : c.wanted_shape-drawn.result ≡ wanted_at c.args.bytes.now wanted past c.args.current =
    c.wanted_shape-drawn.ensures.wanted c.args.bytes.now past wanted reader.element same in
    for_fault_weaker (IsRefusedBy (KeepsGdsiiRule c.args.bytes.now wanted past c.args.current) c.args.at)
    (IsRefused c.args.bytes.now c.args.unit wanted past c.args.current c.args.at) c.in-Err-built.refusal
    (λ bad broken. inr (inl (record {
      some = some_next (place_behind past) c.args.self.now.place c.in-Some.place c.args.current reader.place (sym c.after.ensures ∙ c.in-Some.is);
      rule = broken.0;
      broken = broken.2;
      bad_is = broken.1;
    })))
    (c.in-Err-built.ensures.broken past wanted reader.element drawn)

pub returns-clause-reader : goal.returns-clause-reader
returns-clause-reader c = λ past wanted same reader.
    let drawn : c.wanted_shape-drawn.result ≡ wanted_at c.args.bytes.now wanted past c.args.current =
    c.wanted_shape-drawn.ensures.wanted c.args.bytes.now past wanted reader.element same in
    let rules : KeepsGdsiiRules c.args.bytes.now wanted past c.args.current = elim (kind_cases c.args.current.kind Xy) [
      | inl xy ↦ c.in-Ok-built.ensures.kept past wanted reader.element drawn xy
      | inr other ↦ c.in-None.ensures.kept past wanted reader.element same other
    ] in
    record {
      place = next_is (place_behind past) c.args.self.now.place c.in-Some.place c.args.current reader.place (sym c.after.ensures ∙ c.in-Some.is);
      element = c.take.ensures.element past wanted reader.element rules;
      orient = c.take.ensures.orient reader.orient;
      names = c.in-Ok.ensures.names past reader.names;
      structure = c.in-Ok-built.ensures.structure past wanted reader.element drawn reader.structure;
      cells =
          c.in-Ok-built.ensures.cells past wanted reader.structure
          ∙ ap (λ cells. cells ++ cells_at c.args.bytes.now wanted past c.args.current) reader.cells;
      cells_grid = c.in-Ok-built.ensures.grid reader.cells_grid reader.structure.shapes_grid reader.structure.placements_grid;
      counts = c.count.ensures c.args.bytes.now past wanted reader.counts drawn;
    }

pub returns-clause-taken : goal.returns-clause-taken
returns-clause-taken c = λ past wanted same reader.
    let drawn : c.wanted_shape-drawn.result ≡ wanted_at c.args.bytes.now wanted past c.args.current =
    c.wanted_shape-drawn.ensures.wanted c.args.bytes.now past wanted reader.element same in
    record {
      rules = elim (kind_cases c.args.current.kind Xy) [
        | inl xy ↦ c.in-Ok-built.ensures.kept past wanted reader.element drawn xy
        | inr other ↦ c.in-None.ensures.kept past wanted reader.element same other
      ];
      unit_agrees = c.in-None-other_unit.ensures.none;
      new_name = λ kind. c.in-Ok.ensures.new past reader.names kind;
    }

pub returns-in-Err-clause-memory : goal.returns-in-Err-clause-memory
returns-in-Err-clause-memory c = λ past wanted same reader e.
    refused_xy c.args.bytes.now c.args.unit wanted past c.args.current c.args.at
    (some_next (place_behind past) c.args.self.now.place c.in-Some.place c.args.current reader.place (sym c.after.ensures ∙ c.in-Some.is))
    (λ other. c.in-None.ensures.kept past wanted reader.element same other) c.in-None-other_unit.ensures.none
    (λ kind. c.enter.ensures.memory past reader.names (c.in-Err.is ∙ e))

pub returns-in-Err-built-clause-memory : goal.returns-in-Err-built-clause-memory
returns-in-Err-built-clause-memory c = λ past wanted same reader e.
    refused_xy c.args.bytes.now c.args.unit wanted past c.args.current c.args.at
    (some_next (place_behind past) c.args.self.now.place c.in-Some.place c.args.current reader.place (sym c.after.ensures ∙ c.in-Some.is))
    (λ other. c.in-None.ensures.kept past wanted reader.element same other) c.in-None-other_unit.ensures.none
    (λ kind. c.in-Ok.ensures.new past reader.names kind)
