-- A text that grows line by line.
use Rattle.std.proofs.Common.{◌≡◌, ℕ, List, [], ◌∷◌, ◌++◌, sym, ap, ◌∙◌, append_assoc}
use Rattle.std.proofs.lemmas.List.Concat.{flat_map-append}
use Rattle.std.specs.Prelude.{codes}
use Rattle.program_text.specs.Lines.{text_of}

grown : (now before : List ℕ) (lines more : List (List ℕ)) → now ≡ before ++ text_of more → before ≡ text_of lines → now ≡ text_of (lines ++ more)
grown now before lines more is so_far =
    is ∙ ap (λ t. t ++ text_of more) so_far ∙ sym (flat_map-append (λ line. line ++ codes "\n") lines more)

-- two lists of lines, each after a line of its own, and a last line
pub two_lists : (l1 l2 l3 : List ℕ) (xs ys : List (List ℕ)) (o0 o1 o2 o3 o4 o5 : List ℕ) → o0 ≡ [] → o1 ≡ o0 ++ text_of (l1 ∷ []) → o2 ≡ o1 ++ text_of xs → o3 ≡ o2 ++ text_of (l2 ∷ []) → o4 ≡ o3 ++ text_of ys → o5 ≡ o4 ++ text_of (l3 ∷ []) → o5 ≡ text_of ((l1 ∷ xs) ++ (l2 ∷ ys) ++ l3 ∷ [])
two_lists l1 l2 l3 xs ys o0 o1 o2 o3 o4 o5 e0 e1 e2 e3 e4 e5 =
    let g2 : o2 ≡ text_of (l1 ∷ xs) = grown o2 o1 (l1 ∷ []) xs e2 (e1 ∙ ap (λ t. t ++ text_of (l1 ∷ [])) e0) in
    let g3 = grown o3 o2 (l1 ∷ xs) (l2 ∷ []) e3 g2 in
    let g4 : o4 ≡ text_of ((l1 ∷ xs) ++ (l2 ∷ ys)) = grown o4 o3 ((l1 ∷ xs) ++ l2 ∷ []) ys e4 g3 ∙ ap text_of (append_assoc (l1 ∷ xs) (l2 ∷ []) ys) in
    grown o5 o4 ((l1 ∷ xs) ++ (l2 ∷ ys)) (l3 ∷ []) e5 g4
