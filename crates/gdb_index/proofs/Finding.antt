-- What the probe finds in an index in whose table the names stand.
use Rattle.std.proofs.Common.{◌≡◌, ℕ, zero, suc, ◌+◌, ◌-◌, ◌*◌, ◌<◌, ◌≤◌, cond, eqb, List, [], length, take, get_or, Option, Some, None, Result, Ok, refl, sym, ap, subst, ◌∙◌, arith, inl, inr}
use Rattle.std.specs.List.{Contains}
use Rattle.std.specs.Str.{bytes_eq}
use Rattle.std.proofs.lemmas.Slice.Eq.{bytes_eq-Decides}
use Rattle.std.proofs.lemmas.Bool.{cases_eq, and_left, and_from, eq-eqb, ne_eqb, false_from_ne_true, le-ltb}
use Rattle.std.proofs.lemmas.List.{get_or_default, length-take-le, get_or-take, take_all}
use Rattle.gdb_index_format.specs.declared.bad_index.BadIndex.{BadIndex}
use Rattle.elf_format.specs.Bytes.{u32_at, string_at}
use Rattle.gdb_index_format.specs.Hash.{name_hash}
use Rattle.gdb_index_format.specs.Version.{header_len}
use Rattle.gdb_index_format.specs.Slots.{slot_of}
use Rattle.gdb_index_format.specs.Probe.{ProbeStep, Ends, Passes, Probed, probe_from, index_fault, table_at, pool_at, slot_count, vector_at, step_in, step_named, step_at, unless_fault, probe}
use Rattle.gdb_index_format.specs.Named.{Named, AreDistinct}
use Rattle.gdb_index.specs.Pool.{vector_offset, name_offset}
use Rattle.gdb_index.specs.Table.{Slot}
use Rattle.gdb_index.proofs.Holding.{HoldsNames, Finds, FindsNothing, IsNone, Answered}
use Rattle.gdb_index.proofs.Reading.{probe_passes, probe_ends}
use Rattle.gdb_index.proofs.Probes.{probe_reaches, probe_once}
use Rattle.gdb_index.proofs.Filling.{some_absent, contains_or_lacks, slot_below, name_offset-pos, fewer_distinct}

-- ---- a whole probe

run_from : (f : ℕ → ProbeStep) (n k j : ℕ) (answer : Result (Option (List ℕ)) BadIndex) → j + k < n → ((i : ℕ) → i < j + k → f i ≡ Passes) → f (j + k) ≡ Ends answer → probe_from f (n - k) k ≡ record { answer = answer; steps = j + k + 1 }
run_from f n k zero answer l passes ends = probe_ends f n k answer (omega arith) (ap f (omega arith) ∙ ends) ∙ ap (λ x. record { answer = answer; steps = x }) (omega arith)
run_from f n k (suc j) answer l passes ends =
    probe_passes f n k (omega arith) (passes k (omega arith))
    ∙ run_from f n (k + 1) j answer (omega arith) (λ i below. passes i (omega arith)) (ap f (omega arith) ∙ ends)
    ∙ ap (λ x. record { answer = answer; steps = x }) (omega arith)

pub run : (f : ℕ → ProbeStep) (n k : ℕ) (answer : Result (Option (List ℕ)) BadIndex) → k < n → ((i : ℕ) → i < k → f i ≡ Passes) → f k ≡ Ends answer → probe_from f n 0 ≡ record { answer = answer; steps = k + 1 }
run f n k answer l passes ends =
    ap (λ x. probe_from f x 0) (whole n) ∙ run_from f n 0 k answer (omega arith) (λ i below. passes i (omega arith)) (ap f (plain k) ∙ ends) ∙ ap (λ x. record { answer = answer; steps = x }) (omega arith) where
      whole : (n : ℕ) → n ≡ n - 0
      whole n = omega arith

      plain : (n : ℕ) → n + 0 ≡ n
      plain n = omega arith

pub probe_is : (b name : List ℕ) → header_len (u32_at b 0) ≤ length b → index_fault b ≡ None → probe b name ≡ probe_from (step_at b name) (slot_count b) 0
unfolding probe
probe_is b name header sound =
    ap (λ x. cond x (record { answer = Ok None; steps = 0 }) (unless_fault (index_fault b) (probe_from (step_at b name) (slot_count b) 0))) (le-ltb _ _ header)
    ∙ ap (λ x. unless_fault x (probe_from (step_at b name) (slot_count b) 0)) sound

-- ---- one step

step_free : (b name : List ℕ) (s : ℕ) → u32_at b (table_at b + 8 * s) ≡ 0 → u32_at b (table_at b + 8 * s + 4) ≡ 0 → step_in b name s ≡ Ends (Ok None)
unfolding step_in
step_free b name s first second =
    ap (λ x. cond x (Ends (Ok None)) (step_named b name (pool_at b + u32_at b (table_at b + 8 * s + 4)) (string_at b (pool_at b + u32_at b (table_at b + 8 * s)))))
    (and_from (eqb (u32_at b (table_at b + 8 * s)) 0) (eqb (u32_at b (table_at b + 8 * s + 4)) 0) (eq-eqb _ _ first) (eq-eqb _ _ second))

step_taken : (b name : List ℕ) (s x y : ℕ) → 0 < x → u32_at b (table_at b + 8 * s) ≡ x → u32_at b (table_at b + 8 * s + 4) ≡ y → step_in b name s ≡ step_named b name (pool_at b + y) (string_at b (pool_at b + x))
unfolding step_in
step_taken b name s x y some first second =
    ap (λ t. cond t (Ends (Ok None)) (step_named b name (pool_at b + u32_at b (table_at b + 8 * s + 4)) (string_at b (pool_at b + u32_at b (table_at b + 8 * s)))))
    (and_left (eqb (u32_at b (table_at b + 8 * s)) 0) (eqb (u32_at b (table_at b + 8 * s + 4)) 0) (ne_eqb _ _ (λ e. omega (arith, some, first))))
    ∙ ap (λ t. step_named b name (pool_at b + t) (string_at b (pool_at b + u32_at b (table_at b + 8 * s)))) second
    ∙ ap (λ t. step_named b name (pool_at b + y) (string_at b (pool_at b + t))) first

named_other : (b name stored : List ℕ) (at : ℕ) → (stored ≡ name → ⊥) → step_named b name at (Some stored) ≡ Passes
named_other b name stored at differ =
    ap (λ x. cond x (Ends (vector_at b at)) Passes) (false_from_ne_true (bytes_eq stored name) (λ e. differ ((bytes_eq-Decides stored name).0 e)))

named_same : (b name stored : List ℕ) (at : ℕ) → stored ≡ name → step_named b name at (Some stored) ≡ Ends (vector_at b at)
named_same b name stored at same =
    ap (λ x. cond x (Ends (vector_at b at)) Passes) ((bytes_eq-Decides stored name).1 same)

-- what a probe for a name meets in the slot of name i
meets : (b : List ℕ) (ns : List Named) (h : HoldsNames b ns) (name : List ℕ) (i : ℕ) (d : Named) → i < length ns → get_or h.filled.used_slots i 0 < slot_count b → step_in b name (get_or h.filled.used_slots i 0) ≡ step_named b name (pool_at b + vector_offset ns i) (Some (get_or ns i d).name)
meets b ns h name i d l below =
    let s = get_or h.filled.used_slots i 0 in
    let held = h.slots s below in
    let stands = h.filled.stands i l in
    step_taken b name s (name_offset ns i) (vector_offset ns i) (name_offset-pos ns i d l) (held.name ∙ ap (λ (x : Slot). x.name) stands) (held.vector ∙ ap (λ (x : Slot). x.vector) stands)
    ∙ ap (λ x. step_named b name (pool_at b + vector_offset ns i) x) (h.names i d l)

used_below : (b : List ℕ) (ns : List Named) (h : HoldsNames b ns) (i : ℕ) (d : Named) → i < length ns → get_or h.filled.used_slots i 0 < slot_count b
used_below b ns h i d l =
    let p = h.filled.placed i d l in
    subst (λ s. s < slot_count b) p.is (slot_below (slot_count b) (name_hash (get_or ns i d).name) p.step (omega (arith, p.below)))

-- a probe passes by the slot of another name
passes_at : (b : List ℕ) (ns : List Named) (h : HoldsNames b ns) (name : List ℕ) (n s : ℕ) (d : Named) → n ≤ length ns → ((i : ℕ) → i < n → (get_or ns i d).name ≡ name → ⊥) → Contains (take n h.filled.used_slots) s → step_in b name s ≡ Passes
passes_at b ns h name n s d within others (i, l, is) =
    let lens : length (take n h.filled.used_slots) ≡ n = length-take-le n h.filled.used_slots (omega (arith, h.filled.count)) in
    let below : i < n = omega (arith, lens) in
    let at : get_or h.filled.used_slots i 0 ≡ s = get_or_default h.filled.used_slots i 0 s (omega (arith, h.filled.count)) ∙ sym (get_or-take n h.filled.used_slots i s below) ∙ is in
    ap (step_in b name) (sym at) ∙ meets b ns h name i d (omega arith) (used_below b ns h i d (omega arith)) ∙ named_other b name (get_or ns i d).name (pool_at b + vector_offset ns i) (others i below)

-- ---- the names that stand

finds : (b : List ℕ) (ns : List Named) (h : HoldsNames b ns) → AreDistinct ns → (i : ℕ) (d : Named) → i < length ns → Finds b ns i d
finds b ns h distinct i d l =
    let name = (get_or ns i d).name in
    let slots = slot_count b in
    let p = h.filled.placed i d l in
    let ends : step_at b name p.step ≡ Ends (Ok (Some (get_or ns i d).words)) =
    ap (step_in b name) p.is ∙ meets b ns h name i d l (used_below b ns h i d l) ∙ named_same b name name (pool_at b + vector_offset ns i) refl ∙ ap (λ x. Ends x) (h.vectors i d l) in
    let passes : (j : ℕ) → j < p.step → step_at b name j ≡ Passes =
    λ j below. passes_at b ns h name i (slot_of slots (name_hash name) j) d (omega arith) (λ k less same. omega (arith, less, distinct k i d (omega arith) l same)) (p.others j below) in
    let all : probe b name ≡ record { answer = Ok (Some (get_or ns i d).words); steps = p.step + 1 } = probe_is b name h.header h.sound ∙ run (step_at b name) slots p.step _ p.below passes ends in
    let few : p.step ≤ i =
    fewer_distinct (λ j. slot_of slots (name_hash name) j) p.step (take i h.filled.used_slots) i (omega (arith, length-take-le i h.filled.used_slots (omega (arith, h.filled.count)))) p.others
    (λ j k lj lk same. probe_once slots (name_hash name) j k h.power_of_two (omega (arith, p.below)) (omega (arith, p.below)) same) in
    record { answer = ap (λ (x : Probed). x.answer) all; steps = subst (λ n. n ≤ i + 1) (sym (ap (λ (x : Probed). x.steps) all)) (omega (arith, few)) }

-- ---- any other name

-- the first step that meets a free slot
record FirstFree (used_slots : List ℕ) (slots hash : ℕ) : Type 0 where
  step : ℕ
  below : step < slots
  lacks : Contains used_slots (slot_of slots hash step) → ⊥
  others : (j : ℕ) → j < step → Contains used_slots (slot_of slots hash j)

first_free : (used_slots : List ℕ) (slots hash k left : ℕ) → k + left < slots → ((j : ℕ) → j < k → Contains used_slots (slot_of slots hash j)) → (Contains used_slots (slot_of slots hash (k + left)) → ⊥) → FirstFree used_slots slots hash
first_free used_slots slots hash k zero l others lacks = record { step = k; below = omega arith; lacks = λ h. lacks (subst (λ x. Contains used_slots (slot_of slots hash x)) (omega arith) h); others = others }
first_free used_slots slots hash k (suc left) l others lacks =
    elim (contains_or_lacks used_slots (slot_of slots hash k)) [
      | inr free ↦ record { step = k; below = omega arith; lacks = free; others = others }
      | inl has ↦ first_free used_slots slots hash (k + 1) left (omega arith)
          (λ j below. elim (cases_eq j k) [
            | inl same ↦ subst (λ x. Contains used_slots (slot_of slots hash x)) (sym same) has
            | inr differ ↦ others j (omega arith)
          ])
          (λ h. lacks (subst (λ x. Contains used_slots (slot_of slots hash x)) (omega arith) h))
    ]

finds_nothing : (b : List ℕ) (ns : List Named) (h : HoldsNames b ns) (name : List ℕ) (d : Named) → IsNone ns name → FindsNothing b ns name
finds_nothing b ns h name d others =
    let slots = slot_count b in
    let hash = name_hash name in
    let used_slots = h.filled.used_slots in
    let absent = some_absent slots used_slots (omega (arith, h.filled.count, h.room)) in
    let reached = probe_reaches slots hash absent.0 h.power_of_two absent.1 in
    let first : FirstFree used_slots slots hash = first_free used_slots slots hash 0 reached.0 (omega (arith, reached.1)) (λ j below. absurd (omega arith))
    (λ has. absent.2 (subst (λ s. Contains used_slots s) (ap (slot_of slots hash) (plain reached.0) ∙ reached.2) has)) in
    let s = slot_of slots hash first.step in
    let below : s < slots = slot_below slots hash first.step (omega (arith, first.below)) in
    let held = h.slots s below in
    let free = h.filled.free s below first.lacks in
    let ends : step_at b name first.step ≡ Ends (Ok None) = step_free b name s (held.name ∙ ap (λ (x : Slot). x.name) free) (held.vector ∙ ap (λ (x : Slot). x.vector) free) in
    let whole : take (length ns) used_slots ≡ used_slots = take_all (length ns) used_slots (omega (arith, h.filled.count)) in
    let passes : (j : ℕ) → j < first.step → step_at b name j ≡ Passes =
    λ j less. passes_at b ns h name (length ns) (slot_of slots hash j) d (omega arith) (λ i l. others i d l) (subst (λ xs. Contains xs (slot_of slots hash j)) (sym whole) (first.others j less)) in
    let all : probe b name ≡ record { answer = Ok None; steps = first.step + 1 } = probe_is b name h.header h.sound ∙ run (step_at b name) slots first.step _ first.below passes ends in
    let few : first.step ≤ length ns =
    fewer_distinct (λ j. slot_of slots hash j) first.step used_slots (length ns) (omega (arith, h.filled.count)) first.others
    (λ j k lj lk same. probe_once slots hash j k h.power_of_two (omega (arith, first.below)) (omega (arith, first.below)) same) in
    record { answer = ap (λ (x : Probed). x.answer) all; steps = subst (λ n. n ≤ length ns + 1) (sym (ap (λ (x : Probed). x.steps) all)) (omega (arith, few)) } where
      plain : (n : ℕ) → 0 + n ≡ n
      plain n = omega arith

pub answers_for : (b : List ℕ) (ns : List Named) → HoldsNames b ns → AreDistinct ns → Answered b ns
answers_for b ns h distinct = record {
  found = λ i d l. finds b ns h distinct i d l;
  absent = λ name others. finds_nothing b ns h name (record { name = []; words = [] }) others;
}
