use Rattle.std.proofs.Common.{◌≡◌, ℕ, ◌+◌, ◌*◌, ◌%◌, ◌<◌, arith, ap, ◌∙◌}
use Rattle.std.specs.Prelude.{bit_or}
use Rattle.std.proofs.lemmas.Nat.{mod_below}
use Rattle.gdb_index_format.specs.Slots.{slot_of, with_lowest_bit, step_size}
use Rattle.gdb_index.proofs.Numbers.{bit_or-one, steps_fit}
use Rattle.gdb_index.proofs.table.slot_at.Goals as goal

fits : (slots hash step x n : ℕ) → slots < 4294967296 → hash < 4294967296 → step < slots → n ≡ hash → hash + step * bit_or (x % slots) 1 < 18446744073709551616
fits slots hash step x n table hashed within is =
    omega (arith, steps_fit slots hash step (x % slots) table hashed within (mod_below x slots (omega arith)), ap (λ y. step * y) (bit_or-one (x % slots)))

is_slot : (slots hash step x n : ℕ) → x ≡ hash * 17 % 4294967296 → n ≡ hash → (n + step * bit_or (x % slots) 1) % slots ≡ slot_of slots hash step
unfolding slot_of
is_slot slots hash step x n spread is =
    ap (λ y. (n + step * y) % slots) (bit_or-one (x % slots)) ∙ ap (λ y. (n + step * with_lowest_bit (y % slots)) % slots) spread ∙ ap (λ y. (y + step * step_size slots hash) % slots) is

pub overflow_mul-result : goal.overflow_mul-result
overflow_mul-result c = omega (arith, fits c.args.slots c.args.hash c.args.step c.from.result c.from-2.result c.requires.table (omega arith) c.requires.within c.from-2.ensures)

pub overflow_add-result : goal.overflow_add-result
overflow_add-result c = omega (arith, fits c.args.slots c.args.hash c.args.step c.from.result c.from-2.result c.requires.table (omega arith) c.requires.within c.from-2.ensures)

pub returns-clause-is : goal.returns-clause-is
returns-clause-is c = is_slot c.args.slots c.args.hash c.args.step c.from.result c.from-2.result c.from.ensures c.from-2.ensures
