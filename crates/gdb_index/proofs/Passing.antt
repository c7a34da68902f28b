-- What three bytes tell of a slot, once they are written.
use Rattle.std.proofs.Common.{◌≡◌, ◌≢◌, ℕ, zero, suc, Bool, true, false, ◌+◌, ◌*◌, ◌/◌, ◌%◌, ◌<◌, ◌≤◌, cond, List, length, get_or, set, replicate, refl, sym, ap, ◌∙◌, arith, nat_le}
use Rattle.std.proofs.lemmas.Bool.{le-leb}
use Rattle.std.proofs.lemmas.List.{get_or-set_same, get_or-set_other, length-set, length-replicate}
use Rattle.std.proofs.lemmas.Bool.Decides.{nat_tests}
use Rattle.std.specs.Prelude.{slice_index}
use Rattle.elf_format.specs.Bytes.{le}
use Rattle.gdb_index.specs.steps.Passed.{steps_passed}

-- by the length of the bytes and the three that tell
noted_in : ℕ → ℕ → ℕ → ℕ → ℕ → ℕ
noted_in n s low middle high = cond (nat_le (3 * s + 3) n) (low + 256 * middle + 65536 * high) 0

at_itself : (at : ℕ) → at + 0 ≡ at
at_itself at = omega arith

three_bytes : (bytes : List ℕ) (at : ℕ) → le bytes at 3 ≡ slice_index bytes at + 256 * slice_index bytes (at + 1) + 65536 * slice_index bytes (at + 2)
unfolding le
three_bytes bytes at = rw at_itself (omega arith)

noted_of : (bytes : List ℕ) (s : ℕ) → steps_passed bytes s ≡ noted_in (length bytes) s (slice_index bytes (3 * s)) (slice_index bytes (3 * s + 1)) (slice_index bytes (3 * s + 2))
unfolding steps_passed noted_in
noted_of bytes s = ap (λ (n : ℕ). cond (nat_le (3 * s + 3) (length bytes)) n 0) (three_bytes bytes (3 * s))

same_noted : (s n m a b c x y z : ℕ) → n ≡ m → a ≡ x → b ≡ y → c ≡ z → noted_in n s a b c ≡ noted_in m s x y z
same_noted s n m a b c x y z len low middle high =
    ap (λ k. noted_in k s a b c) len ∙ ap (λ k. noted_in m s k b c) low ∙ ap (λ k. noted_in m s x k c) middle ∙ ap (λ k. noted_in m s x y k) high

three_set : List ℕ → ℕ → ℕ → ℕ → ℕ → List ℕ
three_set bytes at low middle high = set (set (set bytes at low) (at + 1) middle) (at + 2) high

length_three : (bytes : List ℕ) (at low middle high : ℕ) → length (three_set bytes at low middle high) ≡ length bytes
unfolding three_set
length_three bytes at low middle high =
    length-set (set (set bytes at low) (at + 1) middle) (at + 2) high ∙ length-set (set bytes at low) (at + 1) middle ∙ length-set bytes at low

other_byte : (bytes : List ℕ) (at low middle high i : ℕ) → i ≢ at → i ≢ at + 1 → i ≢ at + 2 → get_or (three_set bytes at low middle high) i 0 ≡ get_or bytes i 0
unfolding three_set
other_byte bytes at low middle high i first second third =
    get_or-set_other (set (set bytes at low) (at + 1) middle) (at + 2) i high 0 third
    ∙ get_or-set_other (set bytes at low) (at + 1) i middle 0 second
    ∙ get_or-set_other bytes at i low 0 first

low_byte : (bytes : List ℕ) (at low middle high : ℕ) → at + 3 ≤ length bytes → get_or (three_set bytes at low middle high) at 0 ≡ low
unfolding three_set
low_byte bytes at low middle high room =
    get_or-set_other (set (set bytes at low) (at + 1) middle) (at + 2) at high 0 (λ e. omega (arith, e))
    ∙ get_or-set_other (set bytes at low) (at + 1) at middle 0 (λ e. omega (arith, e))
    ∙ get_or-set_same bytes at low 0 (omega (arith, room))

middle_byte : (bytes : List ℕ) (at low middle high : ℕ) → at + 3 ≤ length bytes → get_or (three_set bytes at low middle high) (at + 1) 0 ≡ middle
unfolding three_set
middle_byte bytes at low middle high room =
    get_or-set_other (set (set bytes at low) (at + 1) middle) (at + 2) (at + 1) high 0 (λ e. omega (arith, e))
    ∙ get_or-set_same (set bytes at low) (at + 1) middle 0 (omega (arith, room, length-set bytes at low))

high_byte : (bytes : List ℕ) (at low middle high : ℕ) → at + 3 ≤ length bytes → get_or (three_set bytes at low middle high) (at + 2) 0 ≡ high
unfolding three_set
high_byte bytes at low middle high room =
    get_or-set_same (set (set bytes at low) (at + 1) middle) (at + 2) high 0 (omega (arith, room, length-set (set bytes at low) (at + 1) middle, length-set bytes at low))

-- three bytes that were read
pub steps_read : (bytes : List ℕ) (slot low middle high : ℕ) → 3 * slot + 3 ≤ length bytes → low ≡ slice_index bytes (3 * slot) → middle ≡ slice_index bytes (3 * slot + 1) → high ≡ slice_index bytes (3 * slot + 2) → low + 256 * middle + 65536 * high ≡ steps_passed bytes slot
unfolding steps_passed
steps_read bytes slot low middle high room first second third =
    omega (arith, first, second, third, three_bytes bytes (3 * slot)) ∙ sym (ap (λ t. cond t (le bytes (3 * slot) 3) 0) (le-leb (3 * slot + 3) (length bytes) room))

-- the three bytes of a slot tell the number that was written
pub steps_written : (bytes : List ℕ) (slot noted : ℕ) → 3 * slot + 3 ≤ length bytes → steps_passed (set (set (set bytes (3 * slot) (noted % 256)) (3 * slot + 1) (noted / 256 % 256)) (3 * slot + 2) (noted / 65536)) slot ≡ noted
unfolding three_set noted_in
steps_written bytes slot noted room =
    let at = 3 * slot in
    let a = noted % 256 in
    let b = noted / 256 % 256 in
    let c = noted / 65536 in
    let whole : a + 256 * b + 65536 * c ≡ noted = omega arith in
    noted_of (three_set bytes at a b c) slot
    ∙ same_noted slot (length (three_set bytes at a b c)) (length bytes) _ _ _ a b c (length_three bytes at a b c) (low_byte bytes at a b c room) (middle_byte bytes at a b c room) (high_byte bytes at a b c room)
    ∙ ap (λ t. cond t (a + 256 * b + 65536 * c) 0) (le-leb (3 * slot + 3) (length bytes) room)
    ∙ whole

-- those of another slot tell what they noted
pub steps_kept : (bytes : List ℕ) (slot low middle high s : ℕ) → (s ≡ slot → ⊥) → steps_passed (set (set (set bytes (3 * slot) low) (3 * slot + 1) middle) (3 * slot + 2) high) s ≡ steps_passed bytes s
unfolding three_set
steps_kept bytes slot a b c s other =
    let at = 3 * slot in
    let apart : (i : ℕ) → i < 3 → get_or (three_set bytes at a b c) (3 * s + i) 0 ≡ get_or bytes (3 * s + i) 0 =
    λ i below. other_byte bytes at a b c (3 * s + i) (λ e. other (omega (arith, e, below))) (λ e. other (omega (arith, e, below))) (λ e. other (omega (arith, e, below))) in
    let first : 3 * s + 0 ≡ 3 * s = omega arith in
    noted_of (three_set bytes at a b c) s
    ∙ same_noted s (length (three_set bytes at a b c)) (length bytes) _ _ _ _ _ _ (length_three bytes at a b c)
    (ap (λ i. get_or (three_set bytes at a b c) i 0) (sym first) ∙ apart 0 (omega arith) ∙ ap (λ i. get_or bytes i 0) first) (apart 1 (omega arith)) (apart 2 (omega arith))
    ∙ sym (noted_of bytes s)

-- where there are no bytes for a slot, no steps are noted of
pub none_outside : (bytes : List ℕ) (s : ℕ) → length bytes < 3 * s + 3 → steps_passed bytes s ≡ 0
unfolding steps_passed
none_outside bytes s outside = ap (λ t. cond t (le bytes (3 * s) 3) 0) (not_le (3 * s + 3) (length bytes) outside) where
  not_le : (n m : ℕ) → m < n → nat_le n m ≡ false
  not_le n m more = grind (arith, nat_tests)

-- zeros tell of none
zeros : ℕ → List ℕ
zeros n = replicate n 0

zero_byte : (n i : ℕ) → get_or (zeros n) i 0 ≡ 0
unfolding zeros
zero_byte zero i = refl
zero_byte (suc n) zero = refl
zero_byte (suc n) (suc i) = zero_byte n i

either : (t : Bool) (x : ℕ) → x ≡ 0 → cond t x 0 ≡ x
either true x none = refl
either false x none = sym none

none_noted : (n s : ℕ) → noted_in n s 0 0 0 ≡ 0
unfolding noted_in
none_noted n s = either (nat_le (3 * s + 3) n) 0 refl

pub none_passed : (n s : ℕ) → steps_passed (replicate n 0) s ≡ 0
unfolding zeros
none_passed n s =
    noted_of (zeros n) s
    ∙ same_noted s (length (zeros n)) n _ _ _ 0 0 0 (length-replicate n 0) (zero_byte n (3 * s)) (zero_byte n (3 * s + 1)) (zero_byte n (3 * s + 2)) ∙ none_noted n s
