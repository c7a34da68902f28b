-- What a writer holds after some pieces of a text: a prefix of the text.
use Rattle.std.proofs.Common.{◌≡◌, ℕ, List, ◌++◌, length, take, drop, Option, sym, ap, subst, ◌∙◌, append_assoc}
use Rattle.std.proofs.lemmas.List.{take-append-drop}
use Rattle.std.proofs.Math.Seq.{take-append_seam}
use Rattle.std.specs.Io.KnownBytes.{Appends, Keeps}
use Rattle.std.proofs.KnownBytes.{Appends-trans, Appends-kept}

-- what was done is a prefix of all
prefix_of : (a b : Option (List ℕ)) (all done rest : List ℕ) → all ≡ done ++ rest → Appends a b done → (n : ℕ) × Appends a b (take n all)
prefix_of a b all done rest parts wrote =
    (length done, subst (Appends a b) (sym (ap (λ (l : List ℕ). take (length done) l) parts ∙ take-append_seam done rest)) wrote)

-- a piece more
pub one_piece : (all done rest : List ℕ) (n : ℕ) → all ≡ done ++ rest → all ≡ done ++ take n rest ++ drop n rest
one_piece all done rest n parts =
    parts ∙ ap (λ (l : List ℕ). done ++ l) (sym (take-append-drop n rest)) ∙ sym (append_assoc done (take n rest) (drop n rest))

pub prefix_then : (a b c : Option (List ℕ)) (all done rest : List ℕ) (n : ℕ) → all ≡ done ++ rest → Appends a b done → Appends b c (take n rest) → (m : ℕ) × Appends a c (take m all)
prefix_then a b c all done rest n parts wrote more =
    prefix_of a c all (done ++ take n rest) (drop n rest) (one_piece all done rest n parts) (Appends-trans a b c done (take n rest) wrote more)

pub prefix_kept : (a b c : Option (List ℕ)) (all done rest : List ℕ) → all ≡ done ++ rest → Appends a b done → Keeps b c → (m : ℕ) × Appends a c (take m all)
prefix_kept a b c all done rest parts wrote kept = prefix_of a c all done rest parts (Appends-kept a b c done wrote kept)
