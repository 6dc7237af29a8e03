use Rattle.shot_output.proofs.LawLemmas.{is_read}
use Rattle.shot_output.proofs.tests.write_both.Goals as goal

pub new-requires : goal.new-requires
new-requires g c = is_read (rw c.expect-deck.ensures at c.read_deck.ensures.found)
