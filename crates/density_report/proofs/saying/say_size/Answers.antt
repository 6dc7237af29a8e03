use Rattle.std.proofs.Common.{ℕ, List, ◌++◌, subst, sym, rules}
use Rattle.std.specs.Prelude.{codes}
use Rattle.depot.specs.Content.{IsPartSaid}
use Rattle.depot.proofs.ForCallers.{refused}
use Rattle.depot.specs.Printing.{IsSaidButFor}
use Rattle.depot.proofs.ForCallers.{hold_more, part_held, said_then}
use Rattle.density_report.specs.Texts.{size_end}
use Rattle.density_report.proofs.TextLemmas.{said_on, part_of_three, part_of_two, three_pieces, two_pieces}
use Rattle.density_report.proofs.saying.say_size.Goals as goal

pub returns-in_err-put_piece-clause-content : goal.returns-in_err-put_piece-clause-content
returns-in_err-put_piece-clause-content g c =
    let at = g.D.Depot.content in
    record {
      ok = search rules;
      refused = refused c.from_residual.result _
          (λ told. part_of_three (at c.args.depot.now) (at c.put_piece.new.depot) c.args.buffer.now
          (codes "density ") c.args.file.now (size_end c.args.mesh.now.size)
          (c.in_err-put_piece.ensures.content.refused told));
    }

pub returns-in_err-put_piece-2-clause-content : goal.returns-in_err-put_piece-2-clause-content
returns-in_err-put_piece-2-clause-content g c =
    let at = g.D.Depot.content in
    record {
      ok = search rules;
      refused = refused c.from_residual-in_err-put_piece-2.result _ (λ told. (
          let part = subst (λ (l : List ℕ). IsPartSaid (at c.put_piece.new.depot) (c.put_piece.new.buffer ++ l)
          (at c.put_piece-2.new.depot)) c.as_bytes.ensures.value (c.in_err-put_piece-2.ensures.content.refused told) in
          let first = part_held (at c.put_piece-2.new.depot) (hold_more c.args.file.now (c.in_ok-put_piece.ensures.content.ok told)) part in
          part_of_two (at c.args.depot.now) (at c.put_piece-2.new.depot) c.args.buffer.now (codes "density " ++ c.args.file.now) (size_end c.args.mesh.now.size)
          (subst (λ (l : List ℕ). IsPartSaid (at c.args.depot.now) l (at c.put_piece-2.new.depot))
          (two_pieces c.args.buffer.now (codes "density ") c.args.file.now) first)
          ));
    }

pub returns-in_err-make_room-clause-content : goal.returns-in_err-make_room-clause-content
returns-in_err-make_room-clause-content g c =
    let at = g.D.Depot.content in
    record {
      ok = search rules;
      refused = refused c.from_residual-in_err-make_room.result _ (λ told. (
          let put = subst (λ (l : List ℕ). IsSaidButFor (at c.put_piece.new.depot)
          (c.put_piece.new.buffer ++ l) c.put_piece-2.new.buffer (at c.put_piece-2.new.depot))
          c.as_bytes.ensures.value (c.in_ok-put_piece-2.ensures.content.ok told) in
          let first = part_held (at c.make_room.new.depot)
          (said_then c.args.file.now (c.in_ok-put_piece.ensures.content.ok told) put)
          (c.in_err-make_room.ensures.content.refused told) in
          part_of_two (at c.args.depot.now) (at c.make_room.new.depot) c.args.buffer.now (codes "density " ++ c.args.file.now) (size_end c.args.mesh.now.size)
          (subst (λ (l : List ℕ). IsPartSaid (at c.args.depot.now) l (at c.make_room.new.depot))
          (two_pieces c.args.buffer.now (codes "density ") c.args.file.now) first)
          ));
    }

pub returns-clause-content : goal.returns-clause-content
returns-clause-content g c = record {
  ok = λ told.
      let at = g.D.Depot.content in
      let put = subst (λ (l : List ℕ). IsSaidButFor (at c.put_piece.new.depot)
      (c.put_piece.new.buffer ++ l) c.put_piece-2.new.buffer (at c.put_piece-2.new.depot))
      c.as_bytes.ensures.value (c.in_ok-put_piece-2.ensures.content.ok told) in
      let room = said_on (said_then c.args.file.now (c.in_ok-put_piece.ensures.content.ok told) put) (c.in_ok-make_room.ensures.content.ok told) in
      subst (λ (l : List ℕ). IsSaidButFor (at c.args.depot.now) l c.put_size.new.buffer (at c.make_room.new.depot))
      (three_pieces c.args.buffer.now (codes "density ") c.args.file.now (size_end c.args.mesh.now.size))
      (subst (λ (l : List ℕ). IsSaidButFor (at c.args.depot.now)
      (((c.args.buffer.now ++ codes "density ") ++ c.args.file.now) ++ size_end c.args.mesh.now.size) l
      (at c.make_room.new.depot)) (sym c.put_size.ensures)
      (hold_more (size_end c.args.mesh.now.size) room));
  refused = search rules;
}
