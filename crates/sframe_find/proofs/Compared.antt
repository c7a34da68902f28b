-- Tests of signed numbers.
use Rattle.std.proofs.Common.{◌≡◌, ℤ, ◌≤ℤ◌, ◌<ℤ◌, true, false, int_lt, arith}
use Rattle.std.specs.Prelude.{int_le}
use Rattle.std.proofs.lemmas.Int.{ints}

pub less_true : (x y x' y' : ℤ) → x' ≡ x → y' ≡ y → int_lt x' y' ≡ true → x <ℤ y
less_true x y x' y' p q t = grind (arith, ints)

pub less_false : (x y x' y' : ℤ) → x' ≡ x → y' ≡ y → int_lt x' y' ≡ false → y ≤ℤ x
less_false x y x' y' p q t = grind (arith, ints)

pub at_most_true : (x y x' y' : ℤ) → x' ≡ x → y' ≡ y → int_le x' y' ≡ true → x ≤ℤ y
at_most_true x y x' y' p q t = grind (arith, ints)

pub at_most_false : (x y x' y' : ℤ) → x' ≡ x → y' ≡ y → int_le x' y' ≡ false → y <ℤ x
at_most_false x y x' y' p q t = grind (arith, ints)
