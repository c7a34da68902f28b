-- What the probe of the format returns for an index, in terms of its names.
use Rattle.std.specs.Prelude.{◌≡◌, ℕ, Bool, List, Option, Ok, find}
use Rattle.std.specs.Option.{option_map}
use Rattle.std.specs.Str.{bytes_eq}
use Rattle.gdb_index_format.specs.Named.{Named, names_in, HasFewSteps}
use Rattle.gdb_index_format.specs.Probe.{probe}

abbrev pub is_sought : List ℕ → Named → Bool
is_sought name n = bytes_eq n.name name

-- the CU vector of a name, where it is one of these
abbrev pub words_under : List ℕ → List Named → Option (List ℕ)
words_under name ns = option_map (λ n. n.words) (find (is_sought name) ns)

-- The probe answers for exactly these names, which stand in the constant pool in this order: every byte string gets the
-- CU vector of the name that it is, or Absent where it is none of them, within few steps.
pub record AnswersFor (b : List ℕ) (ns : List Named) : Type 0 where
  pub answer : (name : List ℕ) → (probe b name).answer ≡ Ok (words_under name ns)
  pub steps : HasFewSteps b (names_in ns)
