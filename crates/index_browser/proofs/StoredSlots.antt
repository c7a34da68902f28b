-- What stands in a slot, and the tests of it.
use Rattle.std.proofs.Common.{◌≡◌, ℕ, Bool, true, false, ◌+◌, ◌*◌, cond, eqb, List, Option, Some, None, refl, sym, ap, ◌∙◌}
use Rattle.std.specs.Prelude.{◌&&◌, not, option_map}
use Rattle.std.specs.Option.{option_and_then}
use Rattle.elf_format.specs.Bytes.{u32_at, string_at}
use Rattle.gdb_index_format.specs.Probe.{table_at, pool_at, vector_at, step_in}
use Rattle.std.proofs.lemmas.Slice.Eq.{bytes_eq-Decides}
use Rattle.index_browser.specs.declared.slots.Taken.{Taken}
use Rattle.index_browser.specs.declared.error.BrowseError.{BrowseError}
use Rattle.index_browser.specs.declared.error.BrowseError.TheVariants.{NameOutside, Misplaced}
use Rattle.index_browser.specs.Stored.{StoredSlot, stored_in, last_slot}
use Rattle.index_browser.specs.Fault.{vector_fault, name_fault, slot_fault, misplaced_fault}
use Rattle.index_browser.specs.steps.Taken.{taken_in, does_pass}
use Rattle.index_browser.specs.steps.Listing.{name_in}
use Rattle.index_browser.proofs.ProbeSlots.{pass_with_name}
use Rattle.index_browser.specs.steps.Placing.{misplaced_fault_at}

-- what stands at these offsets
abbrev pub stored_of : List ℕ → ℕ → Taken → StoredSlot
stored_of b s t = record { slot = s; name = string_at b t.name; vector = vector_at b t.vector }

either : (x : Bool) (b : List ℕ) (s n v : ℕ) → option_map (stored_of b s) (cond x None (Some (record { name = n; vector = v }))) ≡ cond x None (Some (record { slot = s; name = string_at b n; vector = vector_at b v }))
either true b s n v = refl
either false b s n v = refl

pub stored_is : (b : List ℕ) (s : ℕ) → option_map (stored_of b s) (taken_in b s) ≡ stored_in b s
unfolding taken_in stored_in
stored_is b s =
    either (eqb (u32_at b (table_at b + 8 * s)) 0 && eqb (u32_at b (table_at b + 8 * s + 4)) 0) b s (pool_at b + u32_at b (table_at b + 8 * s)) (pool_at b + u32_at b (table_at b + 8 * s + 4))

pub free_passes : (f : StoredSlot → Option BrowseError) (b : List ℕ) (s : ℕ) → None ≡ taken_in b s → None ≡ option_and_then f (stored_in b s)
free_passes f b s free = ap (λ o. option_and_then f (option_map (stored_of b s) o)) free ∙ ap (option_and_then f) (stored_is b s)

pub taken_tests : (f : StoredSlot → Option BrowseError) (b : List ℕ) (s : ℕ) (t : Taken) → Some t ≡ taken_in b s → f (stored_of b s t) ≡ option_and_then f (stored_in b s)
taken_tests f b s t taken = ap (λ o. option_and_then f (option_map (stored_of b s) o)) taken ∙ ap (option_and_then f) (stored_is b s)

pub name_ends_nowhere : (b : List ℕ) (units s : ℕ) (t : Taken) → Some t ≡ taken_in b s → None ≡ string_at b t.name → Some (NameOutside s) ≡ option_and_then (slot_fault units) (stored_in b s)
name_ends_nowhere b units s t taken outside = ap (name_fault units s (vector_at b t.vector)) outside ∙ taken_tests (slot_fault units) b s t taken

pub vector_tested : (b name : List ℕ) (units s : ℕ) (t : Taken) (fault : Option BrowseError) → Some t ≡ taken_in b s → Some name ≡ string_at b t.name → fault ≡ vector_fault units s (vector_at b t.vector) → fault ≡ option_and_then (slot_fault units) (stored_in b s)
vector_tested b name units s t fault taken named is = is ∙ ap (name_fault units s (vector_at b t.vector)) named ∙ taken_tests (slot_fault units) b s t taken

placed_of : (b : List ℕ) (s : ℕ) (o : Option Taken) → misplaced_fault b s (option_and_then (λ (t : Taken). string_at b t.name) o) ≡ option_and_then (misplaced_fault_at b) (option_map (stored_of b s) o)
placed_of b s None = refl
placed_of b s (Some t) = refl

-- whether a slot is misplaced shows in its name
pub placed_is : (b : List ℕ) (s : ℕ) (o : Option (List ℕ)) → o ≡ name_in b s → misplaced_fault b s o ≡ option_and_then (misplaced_fault_at b) (stored_in b s)
placed_is b s o is = ap (misplaced_fault b s) is ∙ placed_of b s (taken_in b s) ∙ ap (option_and_then (misplaced_fault_at b)) (stored_is b s)

pub place_tested : (b name : List ℕ) (s : ℕ) (same : Bool) → Some name ≡ name_in b s → same ≡ eqb (last_slot b name) s → cond same None (Some (Misplaced s)) ≡ option_and_then (misplaced_fault_at b) (stored_in b s)
place_tested b name s same named is = ap (λ x. cond x None (Some (Misplaced s))) is ∙ placed_is b s (Some name) named

-- the probe for the name of a slot does not pass the slot by
own_of : (b name : List ℕ) (s : ℕ) (o : Option Taken) → o ≡ taken_in b s → Some name ≡ option_and_then (λ (t : Taken). string_at b t.name) o → does_pass (step_in b name s) ≡ false
own_of b name s None taken named = absurd cc
own_of b name s (Some t) taken named = sym (pass_with_name b name name s t taken named) ∙ ap not ((bytes_eq-Decides name name).1 refl)

pub own_ends : (b name : List ℕ) (s : ℕ) → Some name ≡ name_in b s → does_pass (step_in b name s) ≡ false
own_ends b name s named = own_of b name s (taken_in b s) refl named
