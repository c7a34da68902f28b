-- Lists of groups and of members: the first error, and the value where there is none.
use Rattle.std.proofs.Common.{◌≡◌, ℕ, Bool, true, false, ◌||◌, ◌==◌, List, [], ◌∷◌, ◌++◌, Option, Some, None, Result, Ok, Err, refl, sym, ap, ◌∙◌, append_assoc}
use Rattle.std.specs.Prelude.{slice_get, if◌then◌else◌}
use Rattle.std.specs.Result.{result_err}
use Rattle.elf_format.specs.Bytes.{get}
use Rattle.elf_format.specs.Chain.{◌>>=◌, each_ok, on_ok}
use Rattle.elf_format.specs.Class.{Class, sh_type, sh_flags}
use Rattle.elf_format.specs.Flags.{has_flag, shf_group}
use Rattle.elf_format.specs.Group.{GroupFault, invalid_member, member_lacks_flag, member_of, member_with}
use Rattle.elf_format.specs.Section.{sections}
use Rattle.elf_format.specs.SectionType.{sht_group}
use Rattle.elf_view.specs.declared.group_error.GroupError.{GroupError}
use Rattle.elf_view.specs.declared.group_error.GroupError.TheVariants as error
use Rattle.elf_view.specs.GroupFault.{IsGroupFault}

-- an error without a fault is an allocation failure
without_fault : (e : GroupError) (fault : Option GroupFault) → IsGroupFault None e → IsGroupFault fault e
without_fault (error.OtherSymbolTable g) fault h = absurd (cc h)
without_fault (error.BadSignature g) fault h = absurd (cc h)
without_fault (error.EmptyGroup g) fault h = absurd (cc h)
without_fault (error.UnsupportedFlags g flags) fault h = absurd (cc h)
without_fault (error.InvalidMember g m) fault h = absurd (cc h)
without_fault (error.MemberLacksFlag g m) fault h = absurd (cc h)
without_fault (error.Elf e) fault h = absurd (cc (h.1))
without_fault error.NoMemory fault h = h

-- the fault of a step is that of the whole
pub fault_of_step : {X Y : Type 0} (step : Result X GroupFault) (after : X → Result Y GroupFault) (e : GroupError) → IsGroupFault (result_err step) e → IsGroupFault (result_err (step >>= after)) e
fault_of_step (Ok x) after e h = without_fault e (result_err (after x)) h
fault_of_step (Err fault) after e h = h

pub fault_of_item : {X Y : Type 0} (f : X → Result Y GroupFault) (x : X) (xs : List X) (e : GroupError) → IsGroupFault (result_err (f x)) e → IsGroupFault (result_err (each_ok f (x ∷ xs))) e
fault_of_item f x xs e h = fault_of_step (f x) (λ y. each_ok f xs >>= (λ ys. Ok (y ∷ ys))) e h

-- a member that is valid is returned
chosen : (t : Bool) (n y : ℕ) (fault : GroupFault) (other : Result ℕ GroupFault) → (other ≡ Ok y → y ≡ n) → (if t then Err fault else other) ≡ Ok y → y ≡ n
chosen true n y fault other f e = absurd (cc e)
chosen false n y fault other f e = f e

kept : (t : Bool) (n y : ℕ) (fault : GroupFault) → (if t then Ok n else Err fault) ≡ Ok y → y ≡ n
kept true n y fault e = cc e
kept false n y fault e = absurd (cc e)

member_by_header : (c : Class) (group member y : ℕ) (header : Option (List ℕ)) → member_with c group member header ≡ Ok y → y ≡ member
member_by_header c group member y None e = absurd (cc e)
member_by_header c group member y (Some header) e =
    chosen (get (sh_type c) header == sht_group) member y (invalid_member group member) (if has_flag (get (sh_flags c) header) shf_group then Ok member else Err (member_lacks_flag group member))
    (kept (has_flag (get (sh_flags c) header) shf_group) member y (member_lacks_flag group member)) e

member_is_itself : (c : Class) (file : List ℕ) (group member y : ℕ) → member_of c file group member ≡ Ok y → y ≡ member
member_is_itself c file group member y e =
    chosen (member == 0 || member == group) member y (invalid_member group member) (member_with c group member (slice_get (sections c file) member))
    (member_by_header c group member y (slice_get (sections c file) member)) e

-- steps that return their items return the list
step_is : {E : Type 0} (x : ℕ) (xs : List ℕ) (first : Result ℕ E) (rest : Result (List ℕ) E) → ((y : ℕ) → first ≡ Ok y → y ≡ x) → (result_err rest ≡ None → rest ≡ Ok xs)
    → result_err (first >>= (λ y. rest >>= (λ ys. Ok (y ∷ ys)))) ≡ None → (first >>= (λ y. rest >>= (λ ys. Ok (y ∷ ys)))) ≡ Ok (x ∷ xs)
step_is x xs (Err e) rest f g h = absurd (cc h)
step_is x xs (Ok y) (Err e) f g h = absurd (cc h)
step_is x xs (Ok y) (Ok ys) f g h = let a : y ≡ x = f y refl in let b : Ok ys ≡ Ok xs = g refl in cc (a, b)

items_are : {E : Type 0} (f : ℕ → Result ℕ E) (xs : List ℕ) → ((x y : ℕ) → f x ≡ Ok y → y ≡ x) → result_err (each_ok f xs) ≡ None → each_ok f xs ≡ Ok xs
items_are f [] same h = refl
items_are f (x ∷ xs) same h = step_is x xs (f x) (each_ok f xs) (same x) (items_are f xs same) h

pub members_are : (c : Class) (file : List ℕ) (group : ℕ) (members : List ℕ) → result_err (each_ok (member_of c file group) members) ≡ None → each_ok (member_of c file group) members ≡ Ok members
members_are c file group members h = items_are (member_of c file group) members (member_is_itself c file group) h

-- Lists of groups: those that were read before the others.

pub groups_before : {X E : Type 0} (r : Result (List X) E) → on_ok (λ after. [] ++ after) r ≡ r
groups_before (Ok xs) = refl
groups_before (Err e) = refl

joined : {X E : Type 0} (before : List X) (y : X) (r : Result (List X) E) → on_ok (λ after. before ++ after) (r >>= (λ ys. Ok (y ∷ ys))) ≡ on_ok (λ after. (before ++ y ∷ []) ++ after) r
joined before y (Ok ys) = ap Ok (sym (append_assoc before (y ∷ []) ys))
joined before y (Err e) = refl

-- one more group was read
pub next_group : {X Y E : Type 0} (f : X → Result Y E) (before : List Y) (x : X) (xs : List X) (y : Y) → f x ≡ Ok y
    → on_ok (λ after. before ++ after) (each_ok f (x ∷ xs)) ≡ on_ok (λ after. (before ++ y ∷ []) ++ after) (each_ok f xs)
next_group f before x xs y e = ap (λ r. on_ok (λ after. before ++ after) (r >>= (λ y. each_ok f xs >>= (λ ys. Ok (y ∷ ys))))) e ∙ joined before y (each_ok f xs)

kept_error : {X Y : Type 0} (g : X → Y) (r : Result X GroupFault) (e : GroupError) → IsGroupFault (result_err r) e → IsGroupFault (result_err (on_ok g r)) e
kept_error g (Ok x) e h = h
kept_error g (Err fault) e h = h

-- the fault of a group is that of the list
pub fault_of_group : {X Y : Type 0} (f : X → Result Y GroupFault) (before : List Y) (x : X) (xs : List X) (e : GroupError) → IsGroupFault (result_err (f x)) e
    → IsGroupFault (result_err (on_ok (λ after. before ++ after) (each_ok f (x ∷ xs)))) e
fault_of_group f before x xs e h = kept_error (λ after. before ++ after) (each_ok f (x ∷ xs)) e (fault_of_item f x xs e h)
