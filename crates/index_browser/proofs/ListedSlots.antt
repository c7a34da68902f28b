-- The name of a slot of an index that passed, with the CU vector that stands there.
use Rattle.std.proofs.Common.{◌≡◌, ℕ, ◌<◌, cond, true, false, List, Option, Some, None, Result, Ok, Err, sym, ap, subst, ◌∙◌}
use Rattle.std.specs.Option.{option_and_then}
use Rattle.elf_format.specs.Bytes.{string_at}
use Rattle.gdb_index_format.specs.declared.bad_index.BadIndex.{BadIndex}
use Rattle.gdb_index_format.specs.Named.{Named}
use Rattle.gdb_index_format.specs.Probe.{slot_count, vector_at, probe}
use Rattle.index_browser.specs.declared.slots.Taken.{Taken}
use Rattle.index_browser.specs.Checked.{PassesTests}
use Rattle.index_browser.specs.NameList.{elements_in}
use Rattle.index_browser.specs.steps.Taken.{taken_in}
use Rattle.index_browser.specs.steps.Listing.{begins_with, listed_with, listed_from_slot, named_by}
use Rattle.index_browser.proofs.ProbeAnswers.{found_slot, slot_answer}

pub vector_is_there : (b : List ℕ) (s : ℕ) (t : Taken) (fault : BadIndex) → PassesTests b → s < slot_count b → Some t ≡ taken_in b s → vector_at b t.vector ≡ Err fault → ⊥
vector_is_there b s t fault p below taken is =
    let f = found_slot b s t p below (sym taken) in
    let clash : Ok (Some f.elements) ≡ Err fault = sym f.read ∙ is in
    cc

one_string : (x y : List ℕ) (o : Option (List ℕ)) → o ≡ Some x → o ≡ Some y → x ≡ y
one_string x y o p q = cc

one_list : (xs ys : List ℕ) (r : Result (Option (List ℕ)) BadIndex) → r ≡ Ok (Some xs) → r ≡ Ok (Some ys) → xs ≡ ys
one_list xs ys r p q = cc

module _ (b prefix : List ℕ) (s : ℕ) where
  pub free_is_not_listed : None ≡ taken_in b s → None ≡ listed_from_slot b prefix s
  free_is_not_listed free = ap (λ (o : Option Taken). option_and_then (listed_with b prefix) (option_and_then (λ (t : Taken). string_at b t.name) o)) free

  module _ (t : Taken) (taken : Some t ≡ taken_in b s) where
    listed_by : (o : Option (List ℕ)) → o ≡ string_at b t.name → option_and_then (listed_with b prefix) o ≡ listed_from_slot b prefix s
    listed_by o named =
        ap (option_and_then (listed_with b prefix)) named
        ∙ ap (λ (x : Option Taken). option_and_then (listed_with b prefix) (option_and_then (λ (t : Taken). string_at b t.name) x)) taken

    pub nameless_is_not_listed : None ≡ string_at b t.name → None ≡ listed_from_slot b prefix s
    nameless_is_not_listed named = listed_by None named

    pub other_is_not_listed : (name : List ℕ) → Some name ≡ string_at b t.name → begins_with prefix name ≡ false → None ≡ listed_from_slot b prefix s
    other_is_not_listed name named other =
        ap (λ x. cond x (Some (named_by b name)) None) (sym other) ∙ listed_by (Some name) named

    pub slot_is_listed : (name words : List ℕ) → PassesTests b → s < slot_count b → Some name ≡ string_at b t.name → vector_at b t.vector ≡ Ok (Some words) → begins_with prefix name ≡ true
        → Some (record { name = name; words = words }) ≡ listed_from_slot b prefix s
    slot_is_listed name words p below named read begins =
        let f = found_slot b s t p below (sym taken) in
        let same : f.name ≡ name = one_string f.name name (string_at b t.name) f.named (sym named) in
        let vector : f.elements ≡ words = one_list f.elements words (vector_at b t.vector) f.read read in
        let found : (probe b name).answer ≡ Ok (Some words) =
        subst (λ (n : List ℕ). (probe b n).answer ≡ Ok (Some words)) same (slot_answer b s t p below (sym taken) ∙ ap (λ (w : List ℕ). Ok (Some w)) vector) in
        let as_found : Named → Option Named = λ n. Some n in
        ap (λ a. as_found (record { name = name; words = elements_in a })) (sym found)
        ∙ ap (λ x. cond x (Some (named_by b name)) None) (sym begins)
        ∙ listed_by (Some name) named
