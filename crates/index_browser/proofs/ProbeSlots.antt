-- A slot as it is read, and the probe that ends there.
use Rattle.std.proofs.Common.{◌≡◌, ℕ, Bool, true, false, ◌+◌, ◌-◌, ◌*◌, ◌<◌, cond, eqb, List, Option, Some, None, Result, Ok, refl, sym, ap, ◌∙◌, arith}
use Rattle.std.specs.Prelude.{not, ◌&&◌}
use Rattle.std.specs.Str.{bytes_eq}
use Rattle.elf_format.specs.Bytes.{u32_at, string_at}
use Rattle.gdb_index_format.specs.declared.bad_index.BadIndex.{BadIndex}
use Rattle.gdb_index_format.specs.Hash.{name_hash}
use Rattle.gdb_index_format.specs.Slots.{slot_of}
use Rattle.gdb_index_format.specs.Probe.{ProbeStep, Ends, Passes, Probed, after_step, probe_from, slot_count, table_at, pool_at, vector_at, step_in, step_named, step_at, probe}
use Rattle.gdb_index.proofs.Reading.{probe_passes, probe_ends, probe_step}
use Rattle.gdb_index.proofs.Finding.{probe_is}
use Rattle.index_browser.specs.declared.slots.Taken.{Taken}
use Rattle.index_browser.specs.Stored.{last_slot}
use Rattle.index_browser.specs.steps.Offsets.{HasFormat}
use Rattle.index_browser.specs.steps.Taken.{taken_in, does_pass}

-- ---- one step

-- the step that reads what a slot holds
abbrev pub step_of : List ℕ → List ℕ → Option Taken → ProbeStep
step_of b name None = Ends (Ok None)
step_of b name (Some t) = step_named b name t.vector (string_at b t.name)

step_chosen : (t : Bool) (b name : List ℕ) (n v : ℕ) (o : Option Taken) → cond t None (Some (record { name = n; vector = v })) ≡ o → cond t (Ends (Ok None)) (step_named b name v (string_at b n)) ≡ step_of b name o
step_chosen true b name n v o is = ap (step_of b name) is
step_chosen false b name n v o is = ap (step_of b name) is

pub step_is_of : (b name : List ℕ) (s : ℕ) → step_in b name s ≡ step_of b name (taken_in b s)
unfolding step_in taken_in
step_is_of b name s =
    step_chosen (eqb (u32_at b (table_at b + 8 * s)) 0 && eqb (u32_at b (table_at b + 8 * s + 4)) 0) b name (pool_at b + u32_at b (table_at b + 8 * s)) (pool_at b + u32_at b (table_at b + 8 * s + 4)) (taken_in b s) refl

pub pass_free : (b name : List ℕ) (s : ℕ) → None ≡ taken_in b s → false ≡ does_pass (step_in b name s)
pass_free b name s free = ap (λ o. does_pass (step_of b name o)) free ∙ ap does_pass (sym (step_is_of b name s))

pub pass_without_end : (b name : List ℕ) (s : ℕ) (t : Taken) → Some t ≡ taken_in b s → None ≡ string_at b t.name → false ≡ does_pass (step_in b name s)
pass_without_end b name s t taken outside =
    ap (λ o. does_pass (step_named b name t.vector o)) outside ∙ ap (λ o. does_pass (step_of b name o)) taken ∙ ap does_pass (sym (step_is_of b name s))

pass_named : (t : Bool) (answer : Result (Option (List ℕ)) BadIndex) → not t ≡ does_pass (cond t (Ends answer) Passes)
pass_named true answer = refl
pass_named false answer = refl

pub pass_with_name : (b name stored : List ℕ) (s : ℕ) (t : Taken) → Some t ≡ taken_in b s → Some stored ≡ string_at b t.name → not (bytes_eq stored name) ≡ does_pass (step_in b name s)
pass_with_name b name stored s t taken named =
    pass_named (bytes_eq stored name) (vector_at b t.vector)
    ∙ ap (λ o. does_pass (step_named b name t.vector o)) named ∙ ap (λ o. does_pass (step_of b name o)) taken ∙ ap does_pass (sym (step_is_of b name s))

-- ---- the last step

goes_on : (step : ProbeStep) → true ≡ does_pass step → step ≡ Passes
goes_on (Ends answer) is = absurd cc
goes_on Passes is = refl

-- steps of a probe up to one are collisions
abbrev pub ReachesStep : List ℕ → List ℕ → ℕ → ℕ → Type 0
ReachesStep b name slots k = probe_from (step_at b name) (slots - k) k ≡ probe_from (step_at b name) slots 0

pub reaches_more : (b name : List ℕ) (slots k : ℕ) → k < slots → true ≡ does_pass (step_at b name k) → ReachesStep b name slots k → ReachesStep b name slots (k + 1)
reaches_more b name slots k below passes so_far = sym (probe_passes (step_at b name) slots k below (goes_on (step_at b name k) passes)) ∙ so_far

last_is : (b name : List ℕ) (n : ℕ) → (probe b name).steps ≡ n + 1 → slot_of (slot_count b) (name_hash name) n ≡ last_slot b name
unfolding last_slot
last_is b name n is = ap (slot_of (slot_count b) (name_hash name)) (omega (arith, is))

ends_steps : (f : ℕ → ProbeStep) (slots k : ℕ) (step : ProbeStep) → k < slots → step ≡ f k → false ≡ does_pass step → (probe_from f (slots - k) k).steps ≡ k + 1
ends_steps f slots k (Ends answer) below is ends = ap (λ (p : Probed). p.steps) (probe_ends f slots k answer below (sym is))
ends_steps f slots k Passes below is ends = absurd cc

-- the probe ends at this step
pub ends_here : (b name : List ℕ) (k s : ℕ) → HasFormat b → k < slot_count b → s ≡ slot_of (slot_count b) (name_hash name) k → false ≡ does_pass (step_at b name k) → ReachesStep b name (slot_count b) k → s ≡ last_slot b name
ends_here b name k s h below is ends so_far =
    is ∙ last_is b name k (ap (λ (p : Probed). p.steps) (probe_is b name h.long h.format ∙ sym so_far) ∙ ends_steps (step_at b name) (slot_count b) k (step_at b name k) below refl ends)

one_step : (step : ProbeStep) (k : ℕ) (rest : Probed) → rest.steps ≡ k + 1 → (after_step step k rest).steps ≡ k + 1
one_step (Ends answer) k rest is = refl
one_step Passes k rest is = is

no_steps : (f : ℕ → ProbeStep) (n k : ℕ) → n ≡ 0 → (probe_from f n k).steps ≡ k
unfolding probe_from
no_steps f n k none = ap (λ m. (probe_from f m k).steps) none

last_steps : (f : ℕ → ProbeStep) (slots k : ℕ) → slots ≡ k + 1 → (probe_from f (slots - k) k).steps ≡ k + 1
last_steps f slots k is = ap (λ (p : Probed). p.steps) (probe_step f (slots - k) slots k refl (omega (arith, is))) ∙ one_step (f k) k (probe_from f (slots - (k + 1)) (k + 1)) (no_steps f (slots - (k + 1)) (k + 1) (omega (arith, is)))

-- or at the last of all steps
pub ends_last : (b name : List ℕ) (k s : ℕ) → HasFormat b → slot_count b ≡ k + 1 → s ≡ slot_of (slot_count b) (name_hash name) k → ReachesStep b name (slot_count b) k → s ≡ last_slot b name
ends_last b name k s h count is so_far =
    is ∙ last_is b name k (ap (λ (p : Probed). p.steps) (probe_is b name h.long h.format ∙ sym so_far) ∙ last_steps (step_at b name) (slot_count b) k count)

-- ---- the code's numbers

pub at_step : (b name : List ℕ) (slots hash k s : ℕ) → slots ≡ slot_count b → hash ≡ name_hash name → s ≡ slot_of slots hash k → s ≡ slot_of (slot_count b) (name_hash name) k
at_step b name slots hash k s counted hashed is = is ∙ ap (λ n. slot_of n hash k) counted ∙ ap (λ h. slot_of (slot_count b) h k) hashed

pub does_at_step : (t : Bool) (b name : List ℕ) (k s : ℕ) → t ≡ does_pass (step_in b name s) → s ≡ slot_of (slot_count b) (name_hash name) k → t ≡ does_pass (step_at b name k)
does_at_step t b name k s is at = is ∙ ap (λ x. does_pass (step_in b name x)) at
