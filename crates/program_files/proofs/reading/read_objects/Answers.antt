use Rattle.std.proofs.Common.{rules, ◌≡◌, ◌+◌, ◌-◌, ◌≤◌, ℕ, List, [], ◌∷◌, length, take, drop, get_or, String, string_bytes, sym, ap, ◌∙◌, arith, length-drop}
use Rattle.std.proofs.Math.Seq.{take-length}
use Rattle.std.specs.declared.alloc.Global.{Global}
use Rattle.program_text.specs.Arguments.{arguments_of}
use Rattle.program_files.proofs.NameLemmas.{one_more_name, names_at_error}
use Rattle.program_files.proofs.ObjectLemmas.{one_more_so_far}
use Rattle.program_files.proofs.ReadLemmas.{err_of}
use Rattle.program_files.proofs.reading.read_objects.Goals as goal

-- all but the first of some arguments
rest_of : (names : List (String Global)) → take (length names - 1) (drop 1 names) ≡ drop 1 names
rest_of names = ap (λ n. take n (drop 1 names)) (sym (length-drop 1 names)) ∙ take-length (drop 1 names)

-- arguments are the first of them and the rest
first_and_rest : (names : List (String Global)) (name : String Global) (text : List ℕ) → 1 ≤ length names → name ≡ get_or names 0 name → text ≡ string_bytes name → arguments_of names ≡ text ∷ arguments_of (take (length names - 1) (drop 1 names))
first_and_rest [] name text some name-is text-is = absurd (omega arith)
first_and_rest (first ∷ names) name text some name-is text-is =
    ap (λ (l : List ℕ). l ∷ arguments_of names) (ap (λ (s : String Global). string_bytes s) (sym name-is) ∙ sym text-is)
    ∙ ap (λ (l : List (String Global)). text ∷ arguments_of l) (sym (rest_of (first ∷ names)))

-- the index rises as the rest gets shorter
counted_on : (names : List (String Global)) (index total : ℕ) → 1 ≤ length names → index + length names ≡ total → index + 1 + length (take (length names - 1) (drop 1 names)) ≡ total
counted_on names index total some is =
    let size = ap (λ (l : List (String Global)). length l) (rest_of names) ∙ length-drop 1 names in omega (arith, size)

pub objects-preserved : goal.objects-preserved
objects-preserved g c = record {
  held = search rules;
  steady = search rules;
  faults = omega (arith, c.objects.invariant.faults, c.read_object.ensures.faults);
  taken = omega (arith, c.objects.invariant.taken, c.read_object.ensures.taken);
  index = counted_on c.objects.rest.now c.objects.index _ c.in-len1-up.len_at_least c.objects.invariant.index;
  counted = c.in_ok-read_object.ensures.counted ∙ c.objects.invariant.counted;
  names =
      one_more_name _ _ _ _ _ _ _ _ _
      (first_and_rest c.objects.rest.now c.name-item.result c.as_str.result.now c.in-len1-up.len_at_least c.name-item.is c.as_str.ensures.value)
      c.objects.invariant.names c.in_ok-read_object.ensures.reads;
  read =
      one_more_so_far _ _ _ _ _ _ _ _ _ _ _ _ _ _ _ c.objects.invariant.held
      (first_and_rest c.objects.rest.now c.name-item.result c.as_str.result.now c.in-len1-up.len_at_least c.name-item.is c.as_str.ensures.value)
      c.objects.invariant.read c.in_ok-read_object.ensures.ok;
}

pub returns-in_err-read_object-clause-reads : goal.returns-in_err-read_object-clause-reads
returns-in_err-read_object-clause-reads g c =
    names_at_error _ _ _ _ _ _ _ _ _ _ _
    (first_and_rest c.objects.rest.now c.name-item.result c.as_str.result.now c.in-len1-up.len_at_least c.name-item.is c.as_str.ensures.value)
    c.objects.invariant.names c.in_err-read_object.ensures.reads
    (λ k is. (c.in_err-read_object.ensures.unread k (err_of _ _ is)).0)
    (λ k is. (c.in_err-read_object.ensures.too_long k (err_of _ _ is)).0)
    c.from_residual.ensures.1
