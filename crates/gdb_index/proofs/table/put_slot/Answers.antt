use Rattle.std.proofs.Common.{◌≡◌, ◌+◌, ◌-◌, ◌*◌, List, ℕ, ◌∙◌, ap, refl}
use Rattle.std.specs.Int.{w32, to_le_bytes}
use borrow.Rule.Slice.PartMut.{put_mid}
use Rattle.gdb_index.proofs.SlotLists.{two_writes}
use Rattle.gdb_index.proofs.table.put_slot.Goals as goal

pub returns : goal.returns
returns c =
    let at = 8 * c.args.slot in
    let name : c.copy_from_slice.new.self ≡ to_le_bytes w32 c.args.name = c.copy_from_slice.ensures.after ∙ c.to_le_bytes.ensures in
    let vector : c.copy_from_slice-2.new.self ≡ to_le_bytes w32 c.args.vector = c.copy_from_slice-2.ensures.after ∙ c.to_le_bytes-2.ensures in
    ap (λ (x : List ℕ). put_mid (at + 4) (at + 8 - (at + 4)) (put_mid at (at + 4 - at) c.args.table.now x) c.copy_from_slice-2.new.self) name
    ∙ ap (λ (y : List ℕ). put_mid (at + 4) (at + 8 - (at + 4)) (put_mid at (at + 4 - at) c.args.table.now (to_le_bytes w32 c.args.name)) y) vector
    ∙ two_writes c.args.table.now (to_le_bytes w32 c.args.name) (to_le_bytes w32 c.args.vector) at c.requires refl refl
