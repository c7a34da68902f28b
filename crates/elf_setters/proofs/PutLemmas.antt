-- What a record holds after a number was put into a field of it.
use Rattle.std.proofs.Common.{◌≡◌, ℕ, zero, suc, ◌+◌, ◌-◌, ◌*◌, ◌/◌, ◌%◌, ◌^◌, ◌<◌, ◌≤◌, ◌⊎◌, List, ◌++◌, length, take, drop, refl, sym, ap, ◌∙◌, arith, inl, inr, add_comm}
use Rattle.std.specs.Prelude.{slice_index}
use Rattle.std.specs.Int.{byte_at, bytes_low_first}
use Rattle.std.proofs.Math.Arith.{mod-mul}
use Rattle.std.proofs.Math.Nat.{pow-suc, pow-succ', mod-eq_of_lt}
use Rattle.std.proofs.lemmas.Nat.{pow-add, pow_pos}
use Rattle.std.proofs.lemmas.List.{length-append, length-take-le, length-drop, get_or-take, get_or-drop, get_or_append_left, get_or-append_right}
use Rattle.elf_format.specs.Bytes.{le, Field, get}
use Rattle.elf_format.proofs.NumberLemmas.{numbers_are_same}
use Rattle.elf_setters.specs.Put.{with_field}

length_low_first : (i k n : ℕ) → length (bytes_low_first i k n) ≡ k
length_low_first i zero n = refl
length_low_first i (suc k) n = ap suc (length_low_first (suc i) k n)

byte_low_first : (i k n j : ℕ) → j < k → slice_index (bytes_low_first i k n) j ≡ byte_at (i + j) n
byte_low_first i zero n j h = absurd (omega arith)
byte_low_first i (suc k) n zero h = ap (λ (m : ℕ). byte_at m n) (omega arith)
byte_low_first i (suc k) n (suc j) h = byte_low_first (suc i) k n j (omega arith) ∙ ap (λ (m : ℕ). byte_at m n) (omega arith)

byte_is : (i n : ℕ) → byte_at i n ≡ n / 256 ^ i % 256
byte_is zero n = omega arith
byte_is (suc i) n = refl

power_of_two : (k : ℕ) → 256 ^ k ≡ 2 ^ (8 * k)
power_of_two zero = refl
power_of_two (suc k) = let e : 8 * suc k ≡ 8 * k + 8 = omega arith in rw (pow-suc 256 k, power_of_two k, e, pow-add 2 (8 * k) 8) refl

power_above_0 : (k : ℕ) → 0 < 256 ^ k
power_above_0 k = rw (power_of_two k) (pow_pos (8 * k))

-- bytes that are a number's, from the lowest on, spell what so many bytes hold of it
le_of_bytes : (b : List ℕ) (at n k : ℕ) → ((i : ℕ) → i < k → slice_index b (at + i) ≡ byte_at i n) → le b at k ≡ n % 256 ^ k
unfolding le
le_of_bytes b at n zero h = omega arith
le_of_bytes b at n (suc k) h =
    ap (λ (x : ℕ). x + slice_index b (at + k) * 256 ^ k) (le_of_bytes b at n k (λ i l. h i (omega arith)))
    ∙ ap (λ (x : ℕ). n % 256 ^ k + x * 256 ^ k) (h k (omega arith) ∙ byte_is k n)
    ∙ add_comm (n % 256 ^ k) (n / 256 ^ k % 256 * 256 ^ k)
    ∙ sym (mod-mul n {m = 256} {c = 256 ^ k} (omega arith) (power_above_0 k))
    ∙ ap (λ (m : ℕ). n % m) (sym (pow-succ' 256 k))

front_length : (field : Field) (value : ℕ) (bytes : List ℕ) → field.at + field.width ≤ length bytes → length (take field.at bytes ++ bytes_low_first 0 field.width value) ≡ field.at + field.width
front_length field value bytes room =
    omega (arith, length-append (take field.at bytes) (bytes_low_first 0 field.width value), length-take-le field.at bytes (omega arith), length_low_first 0 field.width value)

pub length_with_field : (field : Field) (value : ℕ) (bytes : List ℕ) → field.at + field.width ≤ length bytes → length (with_field field value bytes) ≡ length bytes
unfolding with_field
length_with_field field value bytes room =
    omega (arith, length-append (take field.at bytes ++ bytes_low_first 0 field.width value) (drop (field.at + field.width) bytes), front_length field value bytes room, length-drop (field.at + field.width) bytes)

byte_inside : (field : Field) (value : ℕ) (bytes : List ℕ) (i : ℕ) → field.at + field.width ≤ length bytes → i < field.width → slice_index (with_field field value bytes) (field.at + i) ≡ byte_at i value
unfolding with_field
byte_inside field value bytes i room below =
    let front = take field.at bytes in
    let middle = bytes_low_first 0 field.width value in
    let size = length-take-le field.at bytes (omega arith) in
    let k : field.at + i - field.at ≡ i = omega arith in
    let n : 0 + i ≡ i = omega arith in
    get_or_append_left (front ++ middle) (drop (field.at + field.width) bytes) 0 (field.at + i) (omega (arith, front_length field value bytes room))
    ∙ get_or-append_right front middle field.at (field.at + i) 0 size (omega arith)
    ∙ ap (λ (j : ℕ). slice_index middle j) k
    ∙ byte_low_first 0 field.width value i below
    ∙ ap (λ (j : ℕ). byte_at j value) n

pub byte_outside : (field : Field) (value : ℕ) (bytes : List ℕ) (i : ℕ) → field.at + field.width ≤ length bytes → (i < field.at) ⊎ (field.at + field.width ≤ i) → slice_index (with_field field value bytes) i ≡ slice_index bytes i
unfolding with_field
byte_outside field value bytes i room (inl before) =
    let front = take field.at bytes in
    let middle = bytes_low_first 0 field.width value in
    let size = length-take-le field.at bytes (omega arith) in
    get_or_append_left (front ++ middle) (drop (field.at + field.width) bytes) 0 i (omega (arith, front_length field value bytes room))
    ∙ get_or_append_left front middle 0 i (omega (arith, size))
    ∙ get_or-take field.at bytes i 0 before
byte_outside field value bytes i room (inr after) =
    let front = take field.at bytes ++ bytes_low_first 0 field.width value in
    let last = field.at + field.width in
    let back : last + (i - last) ≡ i = omega arith in
    get_or-append_right front (drop last bytes) last i 0 (front_length field value bytes room) after
    ∙ get_or-drop last bytes (i - last) 0
    ∙ ap (λ (j : ℕ). slice_index bytes j) back

pub get_with_field : (field : Field) (value : ℕ) (bytes : List ℕ) → field.at + field.width ≤ length bytes → get field (with_field field value bytes) ≡ value % 256 ^ field.width
get_with_field field value bytes room =
    le_of_bytes (with_field field value bytes) field.at value field.width (λ i below. byte_inside field value bytes i room below)

pub get_it_with_field : (field : Field) (value : ℕ) (bytes : List ℕ) → field.at + field.width ≤ length bytes → value < 2 ^ (8 * field.width) → get field (with_field field value bytes) ≡ value
get_it_with_field field value bytes room fits =
    get_with_field field value bytes room ∙ ap (λ (m : ℕ). value % m) (power_of_two field.width) ∙ mod-eq_of_lt fits

pub get_other_with_field : (field other : Field) (value : ℕ) (bytes : List ℕ) → field.at + field.width ≤ length bytes → (other.at + other.width ≤ field.at) ⊎ (field.at + field.width ≤ other.at) → get other (with_field field value bytes) ≡ get other bytes
get_other_with_field field other value bytes room (inl before) =
    numbers_are_same (with_field field value bytes) bytes other.at other.at other.width (λ i below. byte_outside field value bytes (other.at + i) room (inl (omega arith)))
get_other_with_field field other value bytes room (inr after) =
    numbers_are_same (with_field field value bytes) bytes other.at other.at other.width (λ i below. byte_outside field value bytes (other.at + i) room (inr (omega arith)))
