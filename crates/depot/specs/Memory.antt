-- A depot in memory that can be told to fail. Its calls are numbered from 0, and the calls whose numbers it was
-- given fail. It counts those refusals by kind, and wants of memory. A name that it hasn't isn't there.
use Rattle.std.specs.Prelude.{ℕ, Bool, false, List, ◌==◌, ◌-◌, ◌^◌, if◌then◌else◌, refl, [], ◌∷◌, ◌++◌}
use Rattle.std.specs.List.{list_any}
use Rattle.std.specs.Coded.{Coded, coded×, coded_list, coded_ℕ, coded_bool, code_by}
use Rattle.depot.specs.Content.{Content, content_code, nothing}
use Rattle.depot.specs.Counts.{Counts, no_counts, raised}

pub record Memory : Type 0 where
  -- the content, but for `blank`, which stands for nothing here
  pub content : Content
  pub counts : Counts
  -- how many calls there were, up to the greatest number
  pub calls : ℕ
  -- the numbers of the calls that fail
  pub failing : List ℕ
  -- whether each call moves at most one byte
  pub is_short : Bool

abbrev pub memory_code : Coded Memory
memory_code =
    code_by (Content × ((ℕ × (ℕ × ℕ)) × (ℕ × (List ℕ × Bool))))
    (coded× content_code (coded× (coded× coded_ℕ (coded× coded_ℕ coded_ℕ)) (coded× coded_ℕ (coded× (coded_list coded_ℕ) coded_bool))))
    (λ m. (m.content, ((m.counts.read_faults, (m.counts.write_faults, m.counts.refused)), (m.calls, (m.failing, m.is_short)))))
    (λ p. record {
      content = p.0;
      counts = record { read_faults = p.1.0.0; write_faults = p.1.0.1.0; refused = p.1.0.1.1 };
      calls = p.1.1.0;
      failing = p.1.1.1.0;
      is_short = p.1.1.1.1;
    })
    (λ _. refl)

-- no file, no call, no fault
abbrev pub new_memory : Memory
new_memory = record {
  content = nothing;
  counts = no_counts;
  calls = 0;
  failing = [];
  is_short = false;
}

-- what the depot tells: a name that isn't held isn't there
abbrev pub memory_content : Memory → Content
memory_content m = record m.content { blank = false }

-- the next call is one of those that fail
abbrev pub is_told : Memory → Bool
is_told m = list_any (λ call. call == m.calls) m.failing

-- the same with another content
abbrev pub with_content : Memory → Content → Memory
with_content m content = record m { content = content }

-- a call was made
abbrev pub next_call : Memory → Memory
next_call m = record m { calls = raised m.calls }

-- that call will fail
abbrev pub with_failing : Memory → ℕ → Memory
with_failing m call = record m { failing = m.failing ++ call ∷ [] }

-- a read fault, a write fault, a want of memory was counted
abbrev pub read_fault : Memory → Memory
read_fault m = record m { counts = record m.counts { read_faults = raised m.counts.read_faults } }

abbrev pub write_fault : Memory → Memory
write_fault m = record m { counts = record m.counts { write_faults = raised m.counts.write_faults } }

abbrev pub memory_refused : Memory → Memory
memory_refused m = record m { counts = record m.counts { refused = raised m.counts.refused } }

-- how many bytes a call moves at most
abbrev pub most_moved : Memory → ℕ
most_moved m = if m.is_short then 1 else 2 ^ 64 - 1
