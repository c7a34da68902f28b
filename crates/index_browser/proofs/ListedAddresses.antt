-- The address area of an index that is laid out is read back as it was written.
use Rattle.std.proofs.Common.{◌≡◌, ℕ, ◌+◌, ◌-◌, ◌*◌, ◌/◌, ◌^◌, ◌<◌, List, ◌++◌, length, take, get_or, map, ap, subst, ◌∙◌, arith}
use Rattle.std.specs.List.{flat_map, range_with_len, sum_by}
use Rattle.std.specs.Int.{w32, w64, to_le_bytes}
use Rattle.std.proofs.lemmas.List.{length-take-le, same_lists}
use Rattle.std.proofs.lemmas.List.FromFn.{length-map-range_with_len, get_or-map-range_with_len}
use Rattle.elf_format.specs.Bytes.{u32_at}
use Rattle.gdb_index_format.specs.declared.placement.AddressEntry.{AddressEntry}
use Rattle.gdb_index_format.specs.Version.{version_number}
use Rattle.gdb_index.specs.Layout.{address_bytes, addresses_offset}
use Rattle.gdb_index.proofs.Standing.{StandsAt, StandsAt-left, StandsAt-right, StandsAt-item, u32_at-stands, u64_at-stands}
use Rattle.gdb_index.proofs.Versions.{number_is_known}
use Rattle.index_browser.specs.Laws.{LayoutListsAddresses}
use Rattle.index_browser.specs.steps.Offsets.{address_from}
use Rattle.index_browser.proofs.AreaLists.{same_entry, address_number, addresses_are}
use Rattle.index_browser.proofs.Layouts.{sum_entries, parts_of, header_is, laid}

read_entry : (b : List ℕ) (at : ℕ) (x : AddressEntry) → (x.low < 2 ^ 64) × (x.high < 2 ^ 64) × (x.unit < 2 ^ 32) → StandsAt b at (address_bytes x) → address_from b at ≡ x
read_entry b at x fits s =
    let ends = StandsAt-left b at (to_le_bytes w64 x.low ++ to_le_bytes w64 x.high) (to_le_bytes w32 x.unit) s in
    same_entry (address_from b at) x
    (u64_at-stands b at x.low fits.0 (StandsAt-left b at (to_le_bytes w64 x.low) (to_le_bytes w64 x.high) ends))
    (u64_at-stands b (at + 8) x.high fits.1 (StandsAt-right b at (to_le_bytes w64 x.low) (to_le_bytes w64 x.high) ends))
    (u32_at-stands b (at + 16) x.unit fits.2 (StandsAt-right b at (to_le_bytes w64 x.low ++ to_le_bytes w64 x.high) (to_le_bytes w32 x.unit) s))

entry_stands : (b : List ℕ) (at : ℕ) (xs : List AddressEntry) (k : ℕ) (d : AddressEntry) → k < length xs → StandsAt b at (flat_map address_bytes xs) → StandsAt b (at + 20 * k) (address_bytes (get_or xs k d))
entry_stands b at xs k d below s =
    let offset : at + sum_by (λ a. length (address_bytes a)) (take k xs) ≡ at + 20 * k = omega (arith, sum_entries (take k xs), length-take-le k xs (omega (arith, below))) in
    subst (λ n. StandsAt b n (address_bytes (get_or xs k d))) offset (StandsAt-item address_bytes b at xs k d below s)

counted : (o3 o4 n : ℕ) → o4 ≡ o3 + 20 * n → (o4 - o3) / 20 ≡ n
counted o3 o4 n is = omega (arith, is)

pub layout_lists_addresses_lem : LayoutListsAddresses
layout_lists_addresses_lem version s xs b small good fit i =
    let v = version_number version in
    let known = number_is_known version in
    let p = parts_of v b s xs i in
    let h = header_is v b s xs i.slots i.table known small p in
    let l = laid v b s xs known small good i in
    let number : address_number b ≡ length xs = counted (u32_at b 12) (u32_at b 16) (length xs) l.area in
    let read = λ (k : ℕ). address_from b (u32_at b 12 + 20 * k) in
    record {
      version_is = h.version;
      entries_are =
          addresses_are b l.format
          ∙ same_lists (map read (range_with_len 0 (address_number b))) xs (length-map-range_with_len read 0 (address_number b) ∙ number)
          (λ k d below.
          let within : k < address_number b = omega (arith, below, length-map-range_with_len read 0 (address_number b)) in
          let inside : k < length xs = omega (arith, within, number) in
          get_or-map-range_with_len read 0 (address_number b) k k d within (omega arith)
          ∙ ap (λ n. address_from b (n + 20 * k)) h.o3
          ∙ read_entry b (addresses_offset v (length s.units) + 20 * k) (get_or xs k d) (fit k d inside) (entry_stands b (addresses_offset v (length s.units)) xs k d inside p.entries));
    }
