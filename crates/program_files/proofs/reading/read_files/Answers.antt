use Rattle.std.proofs.Common.{ℕ, List, IsTrue, ◌++◌, ap, subst, refl, ◌∙◌, arith, sym}
use Rattle.std.proofs.lemmas.List.{length-map}
use Rattle.std.specs.Prelude.{Vec}
use Rattle.std.specs.declared.alloc.Global.{Global}
use Rattle.elf_format.specs.declared.index.Span.{Span}
use Rattle.program_text.specs.Tables.{tables_of}
use Rattle.program_files.proofs.NameLemmas.{read_both, read_some}
use Rattle.program_files.proofs.ReadLemmas.{same_error, err_of, some_mapped, sframe_error, objects_settle, sframe_index, object_index, all_read, spans_counted, spans_within}
use Rattle.program_files.proofs.reading.read_files.Goals as goal

pub returns-in_err-sframe-clause-longer : goal.returns-in_err-sframe-clause-longer
returns-in_err-sframe-clause-longer g c = λ k is.
    let handed = same_error _ _ _ c.from_residual-in_err-sframe.ensures.1 is in
    let known = c.in_err-sframe.ensures.too_long k (err_of _ _ handed) in
    sframe_error _ _ (tables_of c.args.command.now) _ _ c.in_ok-read_file.ensures.held c.in_ok-read_file.ensures.ok.4 known.3

pub returns-in_err-sframe-clause-too_long : goal.returns-in_err-sframe-clause-too_long
returns-in_err-sframe-clause-too_long g c = λ k is.
    let handed = same_error _ _ _ c.from_residual-in_err-sframe.ensures.1 is in
    let known = c.in_err-sframe.ensures.too_long k (err_of _ _ handed) in
    (sframe_index (tables_of c.args.command.now) k known.0 (some_mapped c.args.command.now.sframe known.1), omega (arith, known.2, c.in_ok-read_file.ensures.taken))

pub returns-in_err-sframe-clause-unread : goal.returns-in_err-sframe-clause-unread
returns-in_err-sframe-clause-unread g c = λ k is.
    let handed = same_error _ _ _ c.from_residual-in_err-sframe.ensures.1 is in
    let known = c.in_err-sframe.ensures.unread k (err_of _ _ handed) in
    (sframe_index (tables_of c.args.command.now) k known.0 (some_mapped c.args.command.now.sframe known.1), omega (arith, known.2, c.in_ok-read_file.ensures.faults))

pub returns-in_err-sframe-clause-missing : goal.returns-in_err-sframe-clause-missing
returns-in_err-sframe-clause-missing g c = λ k is steady.
    let handed = same_error _ _ _ c.from_residual-in_err-sframe.ensures.1 is in
    let known = c.in_err-sframe.ensures.unread k (err_of _ _ handed) in
    let steady_then = subst (λ b. IsTrue b) (sym c.in_ok-read_file.ensures.steady) steady in
    sframe_error _ _ (tables_of c.args.command.now) _ _ c.in_ok-read_file.ensures.held c.in_ok-read_file.ensures.ok.4 (known.3 steady_then)

pub returns-in_err-objects-clause-longer : goal.returns-in_err-objects-clause-longer
returns-in_err-objects-clause-longer g c = λ k is.
    let handed = same_error _ _ _ c.from_residual-in_err-objects.ensures.1 is in
    let known = c.in_err-objects.ensures.too_long k (err_of _ _ handed) in
    objects_settle _ _ _ (tables_of c.args.command.now) _ _ _ _ c.in_ok-read_file.ensures.held c.in_ok-sframe.ensures.held c.first_object-first.ensures c.in_ok-read_file.ensures.ok.4 c.in_ok-sframe.ensures.ok known.3

pub returns-in_err-objects-clause-missing : goal.returns-in_err-objects-clause-missing
returns-in_err-objects-clause-missing g c = λ k is steady.
    let handed = same_error _ _ _ c.from_residual-in_err-objects.ensures.1 is in
    let known = c.in_err-objects.ensures.unread k (err_of _ _ handed) in
    let steady_then = subst (λ b. IsTrue b) (sym (c.in_ok-sframe.ensures.steady ∙ c.in_ok-read_file.ensures.steady)) steady in
    objects_settle _ _ _ (tables_of c.args.command.now) _ _ _ _ c.in_ok-read_file.ensures.held c.in_ok-sframe.ensures.held c.first_object-first.ensures c.in_ok-read_file.ensures.ok.4 c.in_ok-sframe.ensures.ok (known.3 steady_then)

pub returns-in_err-objects-clause-unread : goal.returns-in_err-objects-clause-unread
returns-in_err-objects-clause-unread g c = λ k is.
    let handed = same_error _ _ _ c.from_residual-in_err-objects.ensures.1 is in
    let known = c.in_err-objects.ensures.unread k (err_of _ _ handed) in (
      object_index (tables_of c.args.command.now) c.first_object-first.result _ k c.first_object-first.ensures (length-map c.args.command.now.objects.now _) known.0 known.1,
      omega (arith, known.2, c.in_ok-read_file.ensures.faults, c.in_ok-sframe.ensures.faults),
    )

pub returns-in_err-objects-clause-too_long : goal.returns-in_err-objects-clause-too_long
returns-in_err-objects-clause-too_long g c = λ k is.
    let handed = same_error _ _ _ c.from_residual-in_err-objects.ensures.1 is in
    let known = c.in_err-objects.ensures.too_long k (err_of _ _ handed) in (
      object_index (tables_of c.args.command.now) c.first_object-first.result _ k c.first_object-first.ensures (length-map c.args.command.now.objects.now _) known.0 known.1,
      omega (arith, known.2, c.in_ok-read_file.ensures.taken, c.in_ok-sframe.ensures.taken),
    )

pub returns-clause-known : goal.returns-clause-known
returns-clause-known g c =
    all_read _ _ _ (tables_of c.args.command.now) _ _ _ _ _ _ c.in_ok-read_file.ensures.held c.in_ok-sframe.ensures.held c.first_object-first.ensures
    (c.in_ok-read_file.ensures.ok.1 ∙ ap (λ (l : List ℕ). l ++ c.in_ok-read_file.ensures.ok.0) c.new-layout.ensures.items)
    c.in_ok-read_file.ensures.ok.4 c.in_ok-sframe.ensures.ok c.in_ok-objects.ensures.ok

pub returns-clause-count : goal.returns-clause-count
returns-clause-count g c = spans_counted _ _ _ _ _ _ (length-map c.args.command.now.objects.now _) c.in_ok-objects.ensures.ok

pub returns-clause-inside : goal.returns-clause-inside
returns-clause-inside g c = spans_within _ _ _ _ _ _ refl c.in_ok-objects.ensures.ok

pub returns-in_err-sframe-clause-reads : goal.returns-in_err-sframe-clause-reads
returns-in_err-sframe-clause-reads g c =
    read_both (tables_of c.args.command.now) _ _ _ _ _ c.in_ok-read_file.ensures.reads c.in_err-sframe.ensures.reads
    (λ k is. let known = c.in_err-sframe.ensures.unread k (err_of _ _ is) in (known.0, some_mapped c.args.command.now.sframe known.1))
    (λ k is. let known = c.in_err-sframe.ensures.too_long k (err_of _ _ is) in (known.0, some_mapped c.args.command.now.sframe known.1))
    c.from_residual-in_err-sframe.ensures.1

pub returns-in_err-objects-clause-reads : goal.returns-in_err-objects-clause-reads
returns-in_err-objects-clause-reads g c =
    read_some (Vec Span Global) (tables_of c.args.command.now) _ _ _ _ _ _ _ c.first_object-first.ensures c.in_ok-read_file.ensures.reads c.in_ok-sframe.ensures.reads c.in_err-objects.ensures.reads
    (λ k is. (c.in_err-objects.ensures.unread k (err_of _ _ is)).0)
    (λ k is. (c.in_err-objects.ensures.too_long k (err_of _ _ is)).0)
    c.from_residual-in_err-objects.ensures.1
