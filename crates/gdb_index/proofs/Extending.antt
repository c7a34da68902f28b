-- Bytes that are written one after another.
use Rattle.std.proofs.Common.{◌≡◌, ℕ, ◌+◌, ◌<◌, ◌≤◌, List, [], ◌∷◌, ◌++◌, length, take, get_or, refl, sym, ap, subst, ◌∙◌, arith, append_assoc}
use Rattle.std.specs.List.{flat_map}
use Rattle.std.proofs.lemmas.List.{length-append, append-nil, take_all, take_more}
use Rattle.std.proofs.lemmas.Grind.{flat_map-append}
use Rattle.std.proofs.lemmas.List.Sums.{sum_by_more, sum_by-take-le}
use Rattle.gdb_index_format.specs.Named.{Named}
use Rattle.gdb_index.specs.Pool.{vector_len, name_len, vectors_len, names_len}
use Rattle.gdb_index.specs.steps.Writes.{Extends}

pub Extends-none : (b : List ℕ) (at : ℕ) → Extends b b at []
Extends-none b at = record { same_len = refl; front = ap (λ n. take n b) (omega arith) ∙ sym (append-nil (take at b)) }

pub Extends-then : (a b c : List ℕ) (at end : ℕ) (xs ys : List ℕ) → Extends a b at xs → end ≡ at + length xs → Extends b c end ys → Extends a c at (xs ++ ys)
Extends-then a b c at end xs ys p e q = record {
  same_len = q.same_len ∙ p.same_len;
  front = ap (λ n. take n c) (omega (arith, e, length-append xs ys)) ∙ q.front ∙ ap (λ n. take n b ++ ys) e ∙ ap (λ t. t ++ ys) p.front ∙ append_assoc (take at a) xs ys;
}

pub Extends-same : (a b : List ℕ) (at : ℕ) (xs ys : List ℕ) → xs ≡ ys → Extends a b at xs → Extends a b at ys
Extends-same a b at xs ys e p = subst (λ t. Extends a b at t) e p

pub flat_map-more : {X : Type 0} (f : X → List ℕ) (xs : List X) (i : ℕ) (d : X) → i < length xs → flat_map f (take (i + 1) xs) ≡ flat_map f (take i xs) ++ f (get_or xs i d)
flat_map-more f xs i d l = ap (flat_map f) (take_more xs i d l) ∙ flat_map-append f (take i xs) (get_or xs i d ∷ []) ∙ ap (λ t. flat_map f (take i xs) ++ t) (append-nil (f (get_or xs i d)))

-- one more item of a list
pub Extends-item : {X : Type 0} (f : X → List ℕ) (a b c : List ℕ) (at end : ℕ) (xs : List X) (i : ℕ) (d x : X) → i < length xs → x ≡ get_or xs i d → Extends a b at (flat_map f (take i xs)) → end ≡ at + length (flat_map f (take i xs)) → Extends b c end (f x) → Extends a c at (flat_map f (take (i + 1) xs))
Extends-item f a b c at end xs i d x l is p e q =
    Extends-same a c at (flat_map f (take i xs) ++ f x) (flat_map f (take (i + 1) xs)) (ap (λ y. flat_map f (take i xs) ++ f y) is ∙ sym (flat_map-more f xs i d l))
    (Extends-then a b c at end (flat_map f (take i xs)) (f x) p e q)

-- bytes up to the end are all of the bytes
pub Extends-whole : (a b xs : List ℕ) → length a ≡ length xs → Extends a b 0 xs → b ≡ xs
Extends-whole a b xs len p = sym (take_all (0 + length xs) b (omega (arith, len, p.same_len))) ∙ p.front

-- one more item, and that it lies within all of them
pub vectors_len-more : (ns : List Named) (i : ℕ) (d item : Named) → i < length ns → item ≡ get_or ns i d → (vectors_len (take (i + 1) ns) ≡ vectors_len (take i ns) + vector_len item) × (vectors_len (take (i + 1) ns) ≤ vectors_len ns)
vectors_len-more ns i d item l is = (sum_by_more vector_len ns i d l ∙ ap (λ (x : Named). vectors_len (take i ns) + vector_len x) (sym is), sum_by-take-le vector_len ns (i + 1))

pub names_len-more : (ns : List Named) (i : ℕ) (d item : Named) → i < length ns → item ≡ get_or ns i d → (names_len (take (i + 1) ns) ≡ names_len (take i ns) + name_len item) × (names_len (take (i + 1) ns) ≤ names_len ns)
names_len-more ns i d item l is = (sum_by_more name_len ns i d l ∙ ap (λ (x : Named). names_len (take i ns) + name_len x) (sym is), sum_by-take-le name_len ns (i + 1))

-- parts that were written one after another, to the end
pub eight_parts : (b0 b1 b2 b3 b4 b5 b6 b7 b8 : List ℕ) (e1 e2 e3 e4 e5 e6 e7 : ℕ) (h u a t z v n r : List ℕ) → Extends b0 b1 0 h → e1 ≡ length h → Extends b1 b2 e1 u → e2 ≡ e1 + length u → Extends b2 b3 e2 a → e3 ≡ e2 + length a → Extends b3 b4 e3 t → e4 ≡ e3 + length t → Extends b4 b5 e4 z → e5 ≡ e4 + length z → Extends b5 b6 e5 v → e6 ≡ e5 + length v → Extends b6 b7 e6 n → e7 ≡ e6 + length n → Extends b7 b8 e7 r → length b0 ≡ e7 + length r → b8 ≡ h ++ u ++ a ++ t ++ z ++ v ++ n ++ r
eight_parts b0 b1 b2 b3 b4 b5 b6 b7 b8 e1 e2 e3 e4 e5 e6 e7 h u a t z v n r p1 l1 p2 l2 p3 l3 p4 l4 p5 l5 p6 l6 p7 l7 p8 whole =
    let k2 = length-append h u in
    let k3 = length-append (h ++ u) a in
    let k4 = length-append (h ++ u ++ a) t in
    let k5 = length-append (h ++ u ++ a ++ t) z in
    let k6 = length-append (h ++ u ++ a ++ t ++ z) v in
    let k7 = length-append (h ++ u ++ a ++ t ++ z ++ v) n in
    let k8 = length-append (h ++ u ++ a ++ t ++ z ++ v ++ n) r in
    let q2 : Extends b0 b2 0 (h ++ u) = Extends-then b0 b1 b2 0 e1 h u p1 (omega arith) p2 in
    let q3 : Extends b0 b3 0 (h ++ u ++ a) = Extends-then b0 b2 b3 0 e2 (h ++ u) a q2 (omega arith) p3 in
    let q4 : Extends b0 b4 0 (h ++ u ++ a ++ t) = Extends-then b0 b3 b4 0 e3 (h ++ u ++ a) t q3 (omega arith) p4 in
    let q5 : Extends b0 b5 0 (h ++ u ++ a ++ t ++ z) = Extends-then b0 b4 b5 0 e4 (h ++ u ++ a ++ t) z q4 (omega arith) p5 in
    let q6 : Extends b0 b6 0 (h ++ u ++ a ++ t ++ z ++ v) = Extends-then b0 b5 b6 0 e5 (h ++ u ++ a ++ t ++ z) v q5 (omega arith) p6 in
    let q7 : Extends b0 b7 0 (h ++ u ++ a ++ t ++ z ++ v ++ n) = Extends-then b0 b6 b7 0 e6 (h ++ u ++ a ++ t ++ z ++ v) n q6 (omega arith) p7 in
    let q8 : Extends b0 b8 0 (h ++ u ++ a ++ t ++ z ++ v ++ n ++ r) = Extends-then b0 b7 b8 0 e7 (h ++ u ++ a ++ t ++ z ++ v ++ n) r q7 (omega arith) p8 in
    Extends-whole b0 b8 (h ++ u ++ a ++ t ++ z ++ v ++ n ++ r) (omega arith) q8
