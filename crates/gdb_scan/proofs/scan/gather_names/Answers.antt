use Rattle.std.proofs.Common.{◌≡◌, ℕ, true, false, List, [], ◌∷◌, ◌++◌, Err, ap, sym, ◌∙◌, arith}
use Rattle.std.proofs.lemmas.Result.{err_from_is_err_and}
use Rattle.elf_format.specs.Section.{sections}
use Rattle.gdb_scan.specs.Marks.{all_marked}
use Rattle.gdb_scan.specs.Cause.{IsNamesCause, no_sets}
use Rattle.gdb_scan.proofs.SectionSearch.{next_step, stands, one_more_done}
use Rattle.gdb_scan.proofs.Causes.{holds_of, no_bytes, bad_elf}
use Rattle.gdb_scan.proofs.Gathering.{gathers_other, gathers_more, first_bad}
use Rattle.gdb_scan.proofs.scan.gather_names.Goals as goal

pub loop-index-preserved-then-not-is_pubnames_section : goal.loop-index-preserved-then-not-is_pubnames_section
loop-index-preserved-then-not-is_pubnames_section g c =
    let class = g.C.ElfClass.class in
    let file = c.args.file.now.bytes in
    let s : ℕ × List ℕ = (c.in-Some.index.0, g.C.SectionHeader.Record.contents c.in-Some.header) in
    let inv = c.loop-index.invariant.parts in
    let here : c.loop-index.index-iterator ≡ s ∷ c.next.new.self = next_step (λ item. (item.0.0, g.C.SectionHeader.Record.contents item.1)) c.loop-index.index-iterator c.next.new.self c.next.result (c.in-Some.index, c.in-Some.header) c.in-Some.is c.next.ensures.steps in
    let whole = ap (λ l. inv.0 ++ l) (sym here) ∙ inv.1 in
    let test = c.is_pubnames_section.ensures s.1 (stands inv.0 s.0 s.1 c.next.new.self (sections class file) whole) in
    let failed : c.is_pubnames_section.result ≡ false = grind arith in
    record { parts = (inv.0 ++ s ∷ [], one_more_done inv.0 s c.next.new.self _ whole, gathers_other class file c.args.units.units.now inv.0 s _ (sym test ∙ failed) inv.2) }

pub returns-in_err-bytes-clause-cause : goal.returns-in_err-bytes-clause-cause
returns-in_err-bytes-clause-cause g c =
    let class = g.C.ElfClass.class in
    let file = c.args.file.now.bytes in
    let s : ℕ × List ℕ = (c.in-Some.index.0, g.C.SectionHeader.Record.contents c.in-Some.header) in
    let inv = c.loop-index.invariant.parts in
    let here : c.loop-index.index-iterator ≡ s ∷ c.next.new.self = next_step (λ item. (item.0.0, g.C.SectionHeader.Record.contents item.1)) c.loop-index.index-iterator c.next.new.self c.next.result (c.in-Some.index, c.in-Some.header) c.in-Some.is c.next.ensures.steps in
    let whole = ap (λ l. inv.0 ++ l) (sym here) ∙ inv.1 in
    let test = c.is_pubnames_section.ensures s.1 (stands inv.0 s.0 s.1 c.next.new.self (sections class file) whole) in
    let passed : c.is_pubnames_section.result ≡ true = grind arith in
    let p = err_from_is_err_and c.from_residual.result c.from_residual.ensures.1 in
    let none = no_bytes c.names_data.result c.in_err-bytes.field-0.0 _ (c.in_err-bytes.was {u = tt}) c.names_data.ensures.found in
    let error = c.in_err-bytes.ensures.error in
    holds_of (IsNamesCause class c.args.object file) c.from_residual.result c.in_err-bytes.field-0.0 (p.1 ∙ ap (λ e. Err e) p.2)
    (first_bad class c.args.object file c.args.units.units.now inv.0 s c.next.new.self (all_marked c.loop-index.names.items) c.in_err-bytes.field-0.0 whole (sym test ∙ passed) inv.2 (bad_elf class c.args.object file s c.in_err-bytes.field-0.0 none error))

pub loop-index-preserved : goal.loop-index-preserved
loop-index-preserved g c =
    let class = g.C.ElfClass.class in
    let file = c.args.file.now.bytes in
    let s : ℕ × List ℕ = (c.in-Some.index.0, g.C.SectionHeader.Record.contents c.in-Some.header) in
    let inv = c.loop-index.invariant.parts in
    let here : c.loop-index.index-iterator ≡ s ∷ c.next.new.self = next_step (λ item. (item.0.0, g.C.SectionHeader.Record.contents item.1)) c.loop-index.index-iterator c.next.new.self c.next.result (c.in-Some.index, c.in-Some.header) c.in-Some.is c.next.ensures.steps in
    let whole = ap (λ l. inv.0 ++ l) (sym here) ∙ inv.1 in
    let test = c.is_pubnames_section.ensures s.1 (stands inv.0 s.0 s.1 c.next.new.self (sections class file) whole) in
    let passed : c.is_pubnames_section.result ≡ true = grind arith in
    record { parts = (inv.0 ++ s ∷ [], one_more_done inv.0 s c.next.new.self _ whole, gathers_more class file c.args.units.units.now inv.0 s c.in_ok-bytes.bytes.now (all_marked c.loop-index.names.items) (all_marked c.publish_names.new.names.items) (sym test ∙ passed) (sym c.in_ok-bytes.ensures.found) c.in_ok-publish_names.ensures.published inv.2) }

pub returns-in_err-publish_names-clause-cause : goal.returns-in_err-publish_names-clause-cause
returns-in_err-publish_names-clause-cause g c =
    let class = g.C.ElfClass.class in
    let file = c.args.file.now.bytes in
    let s : ℕ × List ℕ = (c.in-Some.index.0, g.C.SectionHeader.Record.contents c.in-Some.header) in
    let inv = c.loop-index.invariant.parts in
    let here : c.loop-index.index-iterator ≡ s ∷ c.next.new.self = next_step (λ item. (item.0.0, g.C.SectionHeader.Record.contents item.1)) c.loop-index.index-iterator c.next.new.self c.next.result (c.in-Some.index, c.in-Some.header) c.in-Some.is c.next.ensures.steps in
    let whole = ap (λ l. inv.0 ++ l) (sym here) ∙ inv.1 in
    let test = c.is_pubnames_section.ensures s.1 (stands inv.0 s.0 s.1 c.next.new.self (sections class file) whole) in
    let passed : c.is_pubnames_section.result ≡ true = grind arith in
    let p = err_from_is_err_and c.from_residual-in_err-publish_names.result c.from_residual-in_err-publish_names.ensures.1 in
    holds_of (IsNamesCause class c.args.object file) c.from_residual-in_err-publish_names.result c.in_err-publish_names.field-0.0 (p.1 ∙ ap (λ e. Err e) p.2)
    (first_bad class c.args.object file c.args.units.units.now inv.0 s c.next.new.self (all_marked c.loop-index.names.items) c.in_err-publish_names.field-0.0 whole (sym test ∙ passed) inv.2 (no_sets c.in_ok-bytes.bytes.now (sym c.in_ok-bytes.ensures.found) c.in_err-publish_names.field-0.0 c.in_err-publish_names.ensures.cause))
