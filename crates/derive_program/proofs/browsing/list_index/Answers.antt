use Rattle.std.proofs.Common.{List, ◌++◌, map, ap, ◌∙◌, arith}
use Rattle.std.proofs.lemmas.List.{length-map}
use Rattle.index_browser.specs.declared.names.NameEntry.{NameEntry}
use Rattle.index_browser.specs.NameList.{all_listed, listed_name}
use Rattle.program_text.specs.Lines.{text_of}
use Rattle.program_text.specs.Report.{named_line}
use Rattle.derive_program.proofs.ReplyLemmas.{listed_with}
use Rattle.derive_program.proofs.browsing.list_index.Goals as goal

pub returns : goal.returns
returns c =
    let entries = c.in_ok-entries.entries in
    let pushed = c.in_ok-push_entries.ensures ∙ ap (λ (es : List NameEntry). c.in_ok-text.text.items ++ text_of (map named_line (all_listed es))) c.deref-4.ensures.value in
    listed_with c.args.index.now c.args.prefix.now _ _ (all_listed entries.items) _ _ c.len-count.result (c.deref.ensures.value ∙ c.in_ok-units.ensures) (c.deref-2.ensures.value ∙ c.in_ok-addresses.ensures)
    c.in_ok-entries.ensures.names (omega (arith, length-map entries.items listed_name, c.len-count.ensures)) c.in_ok-text.ensures pushed
