use Rattle.std.proofs.Common.{◌+◌, ◌<◌, ◌^◌, subst, sym}
use Rattle.std.proofs.lemmas.List.Elements.{All-push}
use Rattle.gdb_index_format.specs.declared.placement.AddressEntry.{AddressEntry}
use Rattle.index_browser.specs.Areas.{index_addresses, AreAddresses}
use Rattle.index_merge.specs.Merged.{moved_address}
use Rattle.index_merge.proofs.Pushing.{push_more, holds_at}
use Rattle.index_merge.proofs.addresses.push_addresses.Goals as goal

pub loop-number-preserved : goal.loop-number-preserved
loop-number-preserved c =
    let entry = c.address_at-entry.result in
    let all = index_addresses c.args.index.now in
    record {
      pushed = push_more (moved_address c.args.units) all c.args.entries.now.items c.loop-number.entries.items c.push.new.self.items c.loop-number.number entry c.address_at-entry.ensures.entry c.in_ok-push.ensures.items c.loop-number.invariant.pushed;
      fit = λ before. subst AreAddresses (sym c.in_ok-push.ensures.items)
          (All-push (λ (a : AddressEntry). (a.low < 2 ^ 64) × (a.high < 2 ^ 64) × (a.unit < 2 ^ 32)) c.loop-number.entries.items (moved_address c.args.units entry) (c.loop-number.invariant.fit before)
          (c.address_at-entry.ensures.fits.0, c.address_at-entry.ensures.fits.1, holds_at (λ (a : AddressEntry). a.unit + c.args.units < 2 ^ 32) all c.loop-number.number entry c.requires c.address_at-entry.ensures.entry));
    }
