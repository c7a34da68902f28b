-- Texts that stand one texts_after another: one more text, and each text again from its span.
use Rattle.std.proofs.Common.{◌≡◌, ℕ, ◌+◌, ◌-◌, ◌≤◌, List, [], ◌∷◌, ◌++◌, length, take, drop, map, refl, sym, ap, ◌∙◌, arith, length-append, append_assoc}
use Rattle.std.proofs.Math.Seq.{drop-append_seam, take-append_seam}
use Rattle.std.proofs.lemmas.List.{append-nil}
use Rattle.std.proofs.lemmas.List.Elements.{All-nil, All-cons}
use Rattle.elf_format.specs.declared.index.Span.{Span}
use Rattle.elf_format.specs.Span.{IsInside, AreInside, span_bytes}
use Rattle.program_files.specs.Joined.{joined, spans_from}

pub joined-push : (texts : List (List ℕ)) (bytes : List ℕ) → joined (texts ++ bytes ∷ []) ≡ joined texts ++ bytes
joined-push [] bytes = append-nil bytes
joined-push (text ∷ texts) bytes =
    ap (λ (l : List ℕ). text ++ l) (joined-push texts bytes) ∙ sym (append_assoc text (joined texts) bytes)

-- the span of some bytes at a index
span_at : ℕ → List ℕ → Span
span_at index bytes = record { start = index; stop = index + length bytes }

pub spans-push : (index : ℕ) (texts : List (List ℕ)) (bytes : List ℕ) → spans_from index (texts ++ bytes ∷ []) ≡ spans_from index texts ++ record { start = index + length (joined texts); stop = index + length (joined texts) + length bytes } ∷ []
spans-push index [] bytes =
    let same : index ≡ index + 0 = omega arith in
    ap (λ p. let span : Span = record { start = p; stop = p + length bytes } in span ∷ []) same
spans-push index (text ∷ texts) bytes =
    let same : index + length text + length (joined texts) ≡ index + length (text ++ joined texts) = omega (arith, length-append text (joined texts)) in
    let first : Span = record { start = index; stop = index + length text } in
    ap (λ (l : List Span). first ∷ l) (spans-push (index + length text) texts bytes)
    ∙ ap (λ p. let last : Span = record { start = p; stop = p + length bytes } in first ∷ (spans_from (index + length text) texts ++ last ∷ [])) same

-- a text between others, from where it begins
cut_out : (front text rest : List ℕ) → take (length front + length text - length front) (drop (length front) (front ++ (text ++ rest))) ≡ text
cut_out front text rest =
    let size : length front + length text - length front ≡ length text = omega arith in
    ap (λ n. take n (drop (length front) (front ++ (text ++ rest)))) size
    ∙ ap (λ (l : List ℕ). take (length text) l) (drop-append_seam front (text ++ rest))
    ∙ take-append_seam text rest

texts_after : (front : List ℕ) (texts : List (List ℕ)) → map (span_bytes (front ++ joined texts)) (spans_from (length front) texts) ≡ texts
texts_after front [] = refl
texts_after front (text ∷ texts) =
    ap (λ (t : List ℕ). t ∷ map (span_bytes (front ++ (text ++ joined texts))) (spans_from (length front + length text) texts)) (cut_out front text (joined texts))
    ∙ ap (λ (l : List ℕ). text ∷ map (span_bytes l) (spans_from (length front + length text) texts)) (sym (append_assoc front text (joined texts)))
    ∙ ap (λ n. text ∷ map (span_bytes (front ++ text ++ joined texts)) (spans_from n texts)) (sym (length-append front text))
    ∙ ap (λ (l : List (List ℕ)). text ∷ l) (texts_after (front ++ text) texts)

pub texts_again : (texts : List (List ℕ)) → map (span_bytes (joined texts)) (spans_from 0 texts) ≡ texts
texts_again texts = texts_after [] texts

pub length-spans_from : (index : ℕ) (texts : List (List ℕ)) → length (spans_from index texts) ≡ length texts
length-spans_from index [] = refl
length-spans_from index (text ∷ texts) =
    let rest = length-spans_from (index + length text) texts in omega (arith, rest)

pub spans_inside : (index n : ℕ) (texts : List (List ℕ)) → index + length (joined texts) ≤ n → AreInside n (spans_from index texts)
spans_inside index n [] fits = All-nil (IsInside n)
spans_inside index n (text ∷ texts) fits =
    let size = length-append text (joined texts) in
    All-cons (IsInside n) _ _ (record { ordered = omega arith; below = omega (arith, size) }) (spans_inside (index + length text) n texts (omega (arith, size)))
