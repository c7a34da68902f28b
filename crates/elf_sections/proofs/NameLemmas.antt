-- A string is compared with a name by as many bytes as the name has, and one more: a longer string is another.
use Rattle.std.proofs.Common.{◌≡◌, ℕ, suc, ◌+◌, Bool, true, false, not, ◌&&◌, eqb, ltb, nat_eq, cond, List, [], ◌∷◌, length, take, drop, Option, Some, None, refl, sym, ap, ◌∙◌, arith, inl, inr}
use Rattle.std.specs.List.{position, position_or_len}
use Rattle.std.specs.Option.{option_map}
use Rattle.std.proofs.lemmas.Bool.{cases_Bool, lt-ltb}
use Rattle.std.proofs.lemmas.Bool.Decides.{nat_tests}
use Rattle.elf_format.specs.Bytes.{string_at}
use Rattle.elf_format.specs.Section.{is_name}

-- the bytes up to the first zero byte
string_in : List ℕ → Option (List ℕ)
string_in bytes = option_map (λ n. take n bytes) (position (λ b. eqb b 0) bytes)

-- the same, byte by byte
name_in : List ℕ → Option (List ℕ)
name_in [] = None
name_in (b ∷ bytes) = cond (eqb b 0) (Some []) (option_map (λ n. b ∷ n) (name_in bytes))

zero_step : (b : ℕ) (bytes : List ℕ) (k n : ℕ) (t : Bool) → t ≡ true → option_map (λ i. take i (b ∷ bytes)) (cond (ltb (cond (not t) (1 + k) 0) (suc n)) (Some (cond (not t) (1 + k) 0)) None) ≡ Some []
zero_step b bytes k n false is = cc
zero_step b bytes k n true is = ap (λ t. option_map (λ (i : ℕ). take i (b ∷ bytes)) (cond t (Some 0) None)) (lt-ltb 0 (suc n) (omega arith))

at_zero : (b : ℕ) (bytes : List ℕ) → eqb b 0 ≡ true → string_in (b ∷ bytes) ≡ Some []
unfolding string_in
at_zero b bytes is = zero_step b bytes (position_or_len (λ x. eqb x 0) bytes) (length bytes) (eqb b 0) is

chosen : (b : ℕ) (bytes : List ℕ) (k : ℕ) (t : Bool) → option_map (λ n. take n (b ∷ bytes)) (cond t (Some (1 + k)) None) ≡ option_map (λ n. b ∷ n) (option_map (λ n. take n bytes) (cond t (Some k) None))
chosen b bytes k true = let more : 1 + k ≡ suc k = omega arith in ap (λ (n : ℕ). Some (take n (b ∷ bytes))) more
chosen b bytes k false = refl

less : (k n : ℕ) → ltb (1 + k) (suc n) ≡ ltb k n
less k n = grind (arith, nat_tests)

step : (b : ℕ) (bytes : List ℕ) (k n : ℕ) (t : Bool) → t ≡ false → option_map (λ i. take i (b ∷ bytes)) (cond (ltb (cond (not t) (1 + k) 0) (suc n)) (Some (cond (not t) (1 + k) 0)) None) ≡ option_map (λ i. b ∷ i) (option_map (λ i. take i bytes) (cond (ltb k n) (Some k) None))
step b bytes k n true is = cc
step b bytes k n false is = ap (λ t. option_map (λ (i : ℕ). take i (b ∷ bytes)) (cond t (Some (1 + k)) None)) (less k n) ∙ chosen b bytes k (ltb k n)

past_zero : (b : ℕ) (bytes : List ℕ) → eqb b 0 ≡ false → string_in (b ∷ bytes) ≡ option_map (λ n. b ∷ n) (string_in bytes)
unfolding string_in
past_zero b bytes is = step b bytes (position_or_len (λ x. eqb x 0) bytes) (length bytes) (eqb b 0) is

names_are : (bytes : List ℕ) → string_in bytes ≡ name_in bytes
unfolding string_in name_in
names_are [] = refl
names_are (b ∷ bytes) =
    elim (cases_Bool (eqb b 0)) [
      | inl here ↦ at_zero b bytes here ∙ sym (ap (λ t. cond t (Some []) (option_map (λ (n : List ℕ). b ∷ n) (name_in bytes))) here)
      | inr past ↦ past_zero b bytes past ∙ ap (option_map (λ (n : List ℕ). b ∷ n)) (names_are bytes) ∙ sym (ap (λ t. cond t (Some []) (option_map (λ (n : List ℕ). b ∷ n) (name_in bytes))) past)
    ]

-- a name with a first byte
and_false : (t : Bool) → (t && false) ≡ false
and_false true = refl
and_false false = refl

one_byte : (b c : ℕ) (name : List ℕ) (found : Option (List ℕ)) → is_name (c ∷ name) (option_map (λ n. b ∷ n) found) ≡ (nat_eq b c && is_name name found)
one_byte b c name None = sym (and_false (nat_eq b c))
one_byte b c name (Some n) = refl

no_byte : (b : ℕ) (found : Option (List ℕ)) → is_name [] (option_map (λ n. b ∷ n) found) ≡ false
no_byte b None = refl
no_byte b (Some n) = refl

front : (t : Bool) (b : ℕ) (found : Option (List ℕ)) → is_name [] (cond t (Some []) (option_map (λ n. b ∷ n) found)) ≡ is_name [] (cond t (Some []) None)
front true b found = refl
front false b found = no_byte b found

byte_by_byte : (t : Bool) (b c : ℕ) (name : List ℕ) (left right : Option (List ℕ)) → is_name name left ≡ is_name name right → is_name (c ∷ name) (cond t (Some []) (option_map (λ n. b ∷ n) left)) ≡ is_name (c ∷ name) (cond t (Some []) (option_map (λ n. b ∷ n) right))
byte_by_byte true b c name left right same = refl
byte_by_byte false b c name left right same = one_byte b c name left ∙ ap (λ t. nat_eq b c && t) same ∙ sym (one_byte b c name right)

enough : (name bytes : List ℕ) → is_name name (name_in bytes) ≡ is_name name (name_in (take (suc (length name)) bytes))
unfolding name_in
enough [] [] = refl
enough (c ∷ name) [] = refl
enough [] (b ∷ bytes) = front (eqb b 0) b (name_in bytes)
enough (c ∷ name) (b ∷ bytes) = byte_by_byte (eqb b 0) b c name (name_in bytes) (name_in (take (suc (length name)) bytes)) (enough name bytes)

-- a prefix of a string decides whether the string is a name
pub prefix_decides : (name strings : List ℕ) (offset : ℕ) → is_name name (string_at (take (length name + 1) (drop offset strings)) 0) ≡ is_name name (string_at strings offset)
unfolding string_in string_at
prefix_decides name strings offset =
    let bytes = drop offset strings in
    let more : length name + 1 ≡ suc (length name) = omega arith in
    ap (λ n. is_name name (string_in (take n bytes))) more ∙ ap (is_name name) (names_are (take (suc (length name)) bytes)) ∙ sym (enough name bytes) ∙ ap (is_name name) (sym (names_are bytes))
