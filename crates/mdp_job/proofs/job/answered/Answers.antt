use Rattle.std.proofs.Common.{inl, sym, subst, arith}
use Rattle.job_words.specs.Texts.{texts}
use Rattle.job_words.specs.Words.{Fracture, Check, Shots, Pack, Unpack, Split, Density, Generate}
use Rattle.mdp_job.specs.Runs.{run_of}
use Rattle.mdp_job.specs.Parts.{IsOf}
use Rattle.mdp_job.proofs.Table.{check_names_file, no_names_file, words_by, answered_by}
use Rattle.mdp_job.proofs.job.answered.Goals as goal

-- ---- the table

pub returns-in-Some-clause-table : goal.returns-in-Some-clause-table
returns-in-Some-clause-table g c = λ told. inl (Fracture c.in-Some.layout.now c.in-Some.deck.now, c.in-Some.ensures.some, c.fracture.ensures.answer told)

pub returns-in-Some-check_names-clause-table : goal.returns-in-Some-check_names-clause-table
returns-in-Some-check_names-clause-table g c =
    λ told. inl (Check c.in-Some-check_names.layout.now c.in-Some-check_names.deck.now, c.in-Some-check_names.ensures.some, c.check.ensures.answer told)

pub returns-in-Some-shots_name-clause-table : goal.returns-in-Some-shots_name-clause-table
returns-in-Some-shots_name-clause-table g c = λ told.
    answered_by g.D.Depot.tells (run_of (g.D.Depot.content c.args.depot.now) (g.D.Depot.content c.list_shots.new.depot)
    (g.D.Depot.counts c.args.depot.now) (g.D.Depot.counts c.list_shots.new.depot))
    (texts c.args.words.now) (Shots c.in-Some-shots_name.file.now) _ _ _ _ c.in-Some-shots_name.ensures.some
    c.plain.ensures.status c.plain.ensures.top (c.list_shots.ensures.answer told)

pub returns-in-Some-pack_names-clause-table : goal.returns-in-Some-pack_names-clause-table
returns-in-Some-pack_names-clause-table g c = λ told.
    answered_by g.D.Depot.tells (run_of (g.D.Depot.content c.args.depot.now) (g.D.Depot.content c.pack.new.depot)
    (g.D.Depot.counts c.args.depot.now) (g.D.Depot.counts c.pack.new.depot))
    (texts c.args.words.now) (Pack c.in-Some-pack_names.file.now c.in-Some-pack_names.out.now) _ _ _ _
    c.in-Some-pack_names.ensures.some c.plain-in-Some-pack_names.ensures.status c.plain-in-Some-pack_names.ensures.top (c.pack.ensures.answer told)

pub returns-in-Some-unpack_names-clause-table : goal.returns-in-Some-unpack_names-clause-table
returns-in-Some-unpack_names-clause-table g c = λ told.
    answered_by g.D.Depot.tells (run_of (g.D.Depot.content c.args.depot.now) (g.D.Depot.content c.unpack.new.depot)
    (g.D.Depot.counts c.args.depot.now) (g.D.Depot.counts c.unpack.new.depot))
    (texts c.args.words.now) (Unpack c.in-Some-unpack_names.file.now c.in-Some-unpack_names.out.now) _ _ _ _
    c.in-Some-unpack_names.ensures.some c.plain-in-Some-unpack_names.ensures.status c.plain-in-Some-unpack_names.ensures.top (c.unpack.ensures.answer told)

pub split-requires : goal.split-requires
split-requires g c = let number = c.in-Some-split_words.ensures.some.number in (number.from, number.to)

pub density-requires : goal.density-requires
density-requires g c = let number = c.in-Some-density_words.ensures.some.number in (omega (arith, number.from), number.to)

pub returns-in-Some-split_words-clause-table : goal.returns-in-Some-split_words-clause-table
returns-in-Some-split_words-clause-table g c = λ told.
    answered_by g.D.Depot.tells (run_of (g.D.Depot.content c.args.depot.now) (g.D.Depot.content c.split.new.depot)
    (g.D.Depot.counts c.args.depot.now) (g.D.Depot.counts c.split.new.depot))
    (texts c.args.words.now) (Split c.in-Some-split_words.size c.in-Some-split_words.file.now
    c.in-Some-split_words.out.now) _ _ _ _ c.in-Some-split_words.ensures.some
    c.plain-in-Some-split_words.ensures.status c.plain-in-Some-split_words.ensures.top (c.split.ensures.answer told)

pub returns-in-Some-density_words-clause-table : goal.returns-in-Some-density_words-clause-table
returns-in-Some-density_words-clause-table g c = λ told.
    inl (
      Density c.in-Some-density_words.size c.in-Some-density_words.layout.now c.in-Some-density_words.deck.now,
      c.in-Some-density_words.ensures.some,
      c.density.ensures.answer told,
    )

pub returns-in-Some-generate_words-clause-table : goal.returns-in-Some-generate_words-clause-table
returns-in-Some-generate_words-clause-table g c = λ told.
    answered_by g.D.Depot.tells (run_of (g.D.Depot.content c.args.depot.now)
    (g.D.Depot.content c.generate_layout.new.depot) (g.D.Depot.counts c.args.depot.now) (g.D.Depot.counts c.generate_layout.new.depot))
    (texts c.args.words.now) (Generate c.in-Some-generate_words.n c.in-Some-generate_words.file.now) _ _ _ _
    c.in-Some-generate_words.ensures.some c.plain-in-Some-generate_words.ensures.status
    c.plain-in-Some-generate_words.ensures.top (c.generate_layout.ensures.made told)

-- ---- the outputs

pub returns-in-Some-clause-file : goal.returns-in-Some-clause-file
returns-in-Some-clause-file g c = λ told.
    no_names_file (g.D.Depot.content c.args.depot.now) (texts c.args.words.now)
    (Fracture c.in-Some.layout.now c.in-Some.deck.now) c.fracture.result.status c.fracture.result.outputs
    c.in-Some.ensures.some (λ l d e. let no : ⊥ = cc in no) c.fracture.ensures.outputs

pub returns-in-Some-density_words-clause-file : goal.returns-in-Some-density_words-clause-file
returns-in-Some-density_words-clause-file g c = λ told.
    no_names_file (g.D.Depot.content c.args.depot.now) (texts c.args.words.now)
    (Density c.in-Some-density_words.size c.in-Some-density_words.layout.now c.in-Some-density_words.deck.now)
    c.density.result.status c.density.result.outputs
    c.in-Some-density_words.ensures.some (λ l d e. let no : ⊥ = cc in no) c.density.ensures.outputs

pub returns-in-Some-check_names-clause-file : goal.returns-in-Some-check_names-clause-file
returns-in-Some-check_names-clause-file g c = λ told.
    check_names_file (g.D.Depot.content c.args.depot.now) (texts c.args.words.now) c.in-Some-check_names.layout.now
    c.in-Some-check_names.deck.now c.check.result.status c.check.result.outputs
    c.in-Some-check_names.ensures.some (c.check.ensures.outputs told)

-- ---- whether the words are a command

pub returns-in-Some-clause-words : goal.returns-in-Some-clause-words
returns-in-Some-clause-words g c =
    words_by (texts c.args.words.now) (Fracture c.in-Some.layout.now c.in-Some.deck.now) c.fracture.result.status c.in-Some.ensures.some c.fracture.ensures.kind

pub returns-in-Some-check_names-clause-words : goal.returns-in-Some-check_names-clause-words
returns-in-Some-check_names-clause-words g c =
    words_by (texts c.args.words.now) (Check c.in-Some-check_names.layout.now c.in-Some-check_names.deck.now)
    c.check.result.status c.in-Some-check_names.ensures.some c.check.ensures.kind

pub returns-in-Some-shots_name-clause-words : goal.returns-in-Some-shots_name-clause-words
returns-in-Some-shots_name-clause-words g c =
    words_by (texts c.args.words.now) (Shots c.in-Some-shots_name.file.now) c.plain.result.status
    c.in-Some-shots_name.ensures.some (subst (IsOf (Shots c.in-Some-shots_name.file.now)) (sym c.plain.ensures.status) c.list_shots.ensures.kind)

pub returns-in-Some-pack_names-clause-words : goal.returns-in-Some-pack_names-clause-words
returns-in-Some-pack_names-clause-words g c =
    words_by (texts c.args.words.now) (Pack c.in-Some-pack_names.file.now c.in-Some-pack_names.out.now)
    c.plain-in-Some-pack_names.result.status c.in-Some-pack_names.ensures.some
    (subst (IsOf (Pack c.in-Some-pack_names.file.now c.in-Some-pack_names.out.now)) (sym c.plain-in-Some-pack_names.ensures.status) c.pack.ensures.kind)

pub returns-in-Some-unpack_names-clause-words : goal.returns-in-Some-unpack_names-clause-words
returns-in-Some-unpack_names-clause-words g c =
    words_by (texts c.args.words.now) (Unpack c.in-Some-unpack_names.file.now c.in-Some-unpack_names.out.now)
    c.plain-in-Some-unpack_names.result.status c.in-Some-unpack_names.ensures.some
    (subst (IsOf (Unpack c.in-Some-unpack_names.file.now c.in-Some-unpack_names.out.now))
    (sym c.plain-in-Some-unpack_names.ensures.status) c.unpack.ensures.kind)

pub returns-in-Some-split_words-clause-words : goal.returns-in-Some-split_words-clause-words
returns-in-Some-split_words-clause-words g c =
    words_by (texts c.args.words.now)
    (Split c.in-Some-split_words.size c.in-Some-split_words.file.now c.in-Some-split_words.out.now)
    c.plain-in-Some-split_words.result.status c.in-Some-split_words.ensures.some
    (subst (IsOf (Split c.in-Some-split_words.size c.in-Some-split_words.file.now c.in-Some-split_words.out.now))
    (sym c.plain-in-Some-split_words.ensures.status) c.split.ensures.kind)

pub returns-in-Some-density_words-clause-words : goal.returns-in-Some-density_words-clause-words
returns-in-Some-density_words-clause-words g c =
    words_by (texts c.args.words.now)
    (Density c.in-Some-density_words.size c.in-Some-density_words.layout.now c.in-Some-density_words.deck.now)
    c.density.result.status c.in-Some-density_words.ensures.some c.density.ensures.kind

pub returns-in-Some-generate_words-clause-words : goal.returns-in-Some-generate_words-clause-words
returns-in-Some-generate_words-clause-words g c =
    words_by (texts c.args.words.now) (Generate c.in-Some-generate_words.n c.in-Some-generate_words.file.now)
    c.plain-in-Some-generate_words.result.status c.in-Some-generate_words.ensures.some
    (subst (IsOf (Generate c.in-Some-generate_words.n c.in-Some-generate_words.file.now))
    (sym c.plain-in-Some-generate_words.ensures.status) c.generate_layout.ensures.kind)
