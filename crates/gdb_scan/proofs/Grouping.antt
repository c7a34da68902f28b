-- Names with their values, in the order of first publication.
use Rattle.std.proofs.Common.{◌≡◌, ℕ, Bool, true, false, cond, not, List, [], ◌∷◌, ◌++◌, map, refl, sym, ap, ◌∙◌, subst, inl, inr}
use Rattle.std.specs.List.{filter}
use Rattle.std.specs.Str.{bytes_eq}
use Rattle.std.proofs.lemmas.Bool.{cases_Bool, cond-true, cond-false, false_from_ne_true}
use Rattle.std.proofs.lemmas.Slice.Eq.{bytes_eq-Decides}
use Rattle.std.proofs.lemmas.List.{map-append}
use Rattle.std.proofs.lemmas.List.Elements.{filter-append}
use Rattle.gdb_index_format.specs.Published.{firsts}
use Rattle.gdb_scan.specs.Groups.{names_of, values_of}

abbrev pub Name : Type 0
Name = List ℕ

-- ---- equal names

pub same_from : (x y : Name) → bytes_eq x y ≡ true → x ≡ y
same_from x y e = (bytes_eq-Decides x y).0 e

pub eq_same : (x : Name) → bytes_eq x x ≡ true
eq_same x = (bytes_eq-Decides x x).1 refl

apart : (b : Bool) → b ≡ true → b ≡ false → ⊥
apart b p q = cc

pub differ-sym : (x y : Name) → bytes_eq x y ≡ false → bytes_eq y x ≡ false
differ-sym x y e = false_from_ne_true (bytes_eq y x) (λ t. apart (bytes_eq x y) ((bytes_eq-Decides x y).1 (sym (same_from y x t))) e)

-- ---- names, each where it stands first

abbrev pub push_new : List Name → Name → List Name
push_new [] n = n ∷ []
push_new (f ∷ fs) n = cond (bytes_eq n f) (f ∷ fs) (f ∷ push_new fs n)

abbrev pub others : Name → List Name → List Name
others m fs = filter (λ k. not (bytes_eq k m)) fs

push-same : (n f : Name) (fs : List Name) → bytes_eq n f ≡ true → push_new (f ∷ fs) n ≡ f ∷ fs
push-same n f fs e = cond-true (bytes_eq n f) (f ∷ fs) (f ∷ push_new fs n) e

push-other : (n f : Name) (fs : List Name) → bytes_eq n f ≡ false → push_new (f ∷ fs) n ≡ f ∷ push_new fs n
push-other n f fs e = cond-false (bytes_eq n f) (f ∷ fs) (f ∷ push_new fs n) e

pub others-same : (m k : Name) (ks : List Name) → bytes_eq k m ≡ true → others m (k ∷ ks) ≡ others m ks
others-same m k ks e = cond-false (not (bytes_eq k m)) (k ∷ others m ks) (others m ks) (ap not e)

pub others-kept : (m k : Name) (ks : List Name) → bytes_eq k m ≡ false → others m (k ∷ ks) ≡ k ∷ others m ks
others-kept m k ks e = cond-true (not (bytes_eq k m)) (k ∷ others m ks) (others m ks) (ap not e)

others-push_other : (m n : Name) (fs : List Name) → bytes_eq n m ≡ false → others m (push_new fs n) ≡ push_new (others m fs) n
others-push_other m n [] differ = others-kept m n [] differ
others-push_other m n (f ∷ fs) differ =
    elim (cases_Bool (bytes_eq n f)) [
      | inl same ↦
          let kept : bytes_eq f m ≡ false = subst (λ x. bytes_eq x m ≡ false) (same_from n f same) differ in
          ap (others m) (push-same n f fs same) ∙ others-kept m f fs kept
          ∙ sym (push-same n f (others m fs) same) ∙ ap (λ xs. push_new xs n) (sym (others-kept m f fs kept))
      | inr other ↦ elim (cases_Bool (bytes_eq f m)) [
        | inl gone ↦
            ap (others m) (push-other n f fs other) ∙ others-same m f (push_new fs n) gone ∙ others-push_other m n fs differ
            ∙ ap (λ xs. push_new xs n) (sym (others-same m f fs gone))
        | inr kept ↦
            ap (others m) (push-other n f fs other) ∙ others-kept m f (push_new fs n) kept ∙ ap (λ xs. f ∷ xs) (others-push_other m n fs differ)
            ∙ sym (push-other n f (others m fs) other) ∙ ap (λ xs. push_new xs n) (sym (others-kept m f fs kept))
      ]
    ]

others-push_same : (m n : Name) (fs : List Name) → bytes_eq n m ≡ true → others m (push_new fs n) ≡ others m fs
others-push_same m n [] same = others-same m n [] same
others-push_same m n (f ∷ fs) same =
    elim (cases_Bool (bytes_eq n f)) [
      | inl here ↦ ap (others m) (push-same n f fs here)
      | inr other ↦ elim (cases_Bool (bytes_eq f m)) [
        | inl gone ↦ ap (others m) (push-other n f fs other) ∙ others-same m f (push_new fs n) gone ∙ others-push_same m n fs same ∙ sym (others-same m f fs gone)
        | inr kept ↦ ap (others m) (push-other n f fs other) ∙ others-kept m f (push_new fs n) kept ∙ ap (λ xs. f ∷ xs) (others-push_same m n fs same) ∙ sym (others-kept m f fs kept)
      ]
    ]

pub firsts-push : (ns : List Name) (n : Name) → firsts (ns ++ n ∷ []) ≡ push_new (firsts ns) n
firsts-push [] n = refl
firsts-push (m ∷ ns) n =
    ap (λ xs. m ∷ others m xs) (firsts-push ns n)
    ∙ elim (cases_Bool (bytes_eq n m)) [
      | inl same ↦ ap (λ xs. m ∷ xs) (others-push_same m n (firsts ns) same) ∙ sym (push-same n m (others m (firsts ns)) same)
      | inr other ↦ ap (λ xs. m ∷ xs) (others-push_other m n (firsts ns) other) ∙ sym (push-other n m (others m (firsts ns)) other)
    ]

-- n is none of the names
abbrev pub Lacks : Name → List Name → Type 0
Lacks n [] = Unit {0}
Lacks n (f ∷ fs) = (bytes_eq n f ≡ false) × Lacks n fs

abbrev pub Differ : List Name → Type 0
Differ [] = Unit {0}
Differ (f ∷ fs) = Lacks f fs × Differ fs

Lacks-others : (k m : Name) (fs : List Name) → Lacks k fs → Lacks k (others m fs)
Lacks-others k m [] h = tt
Lacks-others k m (f ∷ fs) h =
    elim (cases_Bool (bytes_eq f m)) [
      | inl gone ↦ subst (λ xs. Lacks k xs) (sym (others-same m f fs gone)) (Lacks-others k m fs h.1)
      | inr kept ↦ subst (λ xs. Lacks k xs) (sym (others-kept m f fs kept)) (h.0, Lacks-others k m fs h.1)
    ]

Lacks-own : (m : Name) (fs : List Name) → Lacks m (others m fs)
Lacks-own m [] = tt
Lacks-own m (f ∷ fs) =
    elim (cases_Bool (bytes_eq f m)) [
      | inl gone ↦ subst (λ xs. Lacks m xs) (sym (others-same m f fs gone)) (Lacks-own m fs)
      | inr kept ↦ subst (λ xs. Lacks m xs) (sym (others-kept m f fs kept)) (differ-sym f m kept, Lacks-own m fs)
    ]

-- what others leaves out is m alone
Lacks-restored : (n m : Name) (fs : List Name) → bytes_eq n m ≡ false → Lacks n (others m fs) → Lacks n fs
Lacks-restored n m [] differ h = tt
Lacks-restored n m (f ∷ fs) differ h =
    elim (cases_Bool (bytes_eq f m)) [
      | inl gone ↦ (subst (λ x. bytes_eq n x ≡ false) (sym (same_from f m gone)) differ, Lacks-restored n m fs differ (subst (λ xs. Lacks n xs) (others-same m f fs gone) h))
      | inr kept ↦ let both : (bytes_eq n f ≡ false) × Lacks n (others m fs) = subst (λ xs. Lacks n xs) (others-kept m f fs kept) h in (both.0, Lacks-restored n m fs differ both.1)
    ]

Differ-others : (m : Name) (fs : List Name) → Differ fs → Differ (others m fs)
Differ-others m [] h = tt
Differ-others m (f ∷ fs) h =
    elim (cases_Bool (bytes_eq f m)) [
      | inl gone ↦ subst (λ xs. Differ xs) (sym (others-same m f fs gone)) (Differ-others m fs h.1)
      | inr kept ↦ subst (λ xs. Differ xs) (sym (others-kept m f fs kept)) (Lacks-others f m fs h.0, Differ-others m fs h.1)
    ]

pub Differ-firsts : (ns : List Name) → Differ (firsts ns)
Differ-firsts [] = tt
Differ-firsts (n ∷ ns) = (Lacks-own n (firsts ns), Differ-others n (firsts ns) (Differ-firsts ns))

pub Lacks-from_firsts : (n : Name) (ns : List Name) → Lacks n (firsts ns) → Lacks n ns
Lacks-from_firsts n [] h = tt
Lacks-from_firsts n (m ∷ ns) h = (h.0, Lacks-from_firsts n ns (Lacks-restored n m (firsts ns) h.0 h.1))

-- ---- values

module _ {X : Type 0} where
  pub value-same : (n : Name) (p : Name × X) (ps : List (Name × X)) → bytes_eq p.0 n ≡ true → values_of n (p ∷ ps) ≡ p.1 ∷ values_of n ps
  value-same n p ps e = ap (map (λ (q : Name × X). q.1)) (cond-true (bytes_eq p.0 n) (p ∷ filter (λ q. bytes_eq q.0 n) ps) (filter (λ q. bytes_eq q.0 n) ps) e)

  pub value-other : (n : Name) (p : Name × X) (ps : List (Name × X)) → bytes_eq p.0 n ≡ false → values_of n (p ∷ ps) ≡ values_of n ps
  value-other n p ps e = ap (map (λ (q : Name × X). q.1)) (cond-false (bytes_eq p.0 n) (p ∷ filter (λ q. bytes_eq q.0 n) ps) (filter (λ q. bytes_eq q.0 n) ps) e)

  pub values-append : (n : Name) (ps qs : List (Name × X)) → values_of n (ps ++ qs) ≡ values_of n ps ++ values_of n qs
  values-append n ps qs = ap (map (λ (q : Name × X). q.1)) (filter-append (λ (q : Name × X). bytes_eq q.0 n) ps qs) ∙ map-append (λ (q : Name × X). q.1) (filter (λ q. bytes_eq q.0 n) ps) (filter (λ q. bytes_eq q.0 n) qs)

  pub values_absent : (n : Name) (ps : List (Name × X)) → Lacks n (names_of ps) → values_of n ps ≡ []
  values_absent n [] h = refl
  values_absent n (p ∷ ps) h = value-other n p ps (differ-sym n p.0 h.0) ∙ values_absent n ps h.1

  -- the values of one more pair
  abbrev pub one_more : Name → X → Name → List X
  one_more n x m = cond (bytes_eq n m) (x ∷ []) []

  pub values-push : (m n : Name) (x : X) (ps : List (Name × X)) → values_of m (ps ++ (n, x) ∷ []) ≡ values_of m ps ++ one_more n x m
  values-push m n x ps =
      values-append m ps ((n, x) ∷ [])
      ∙ ap (λ xs. values_of m ps ++ xs) (elim (cases_Bool (bytes_eq n m)) [
        | inl same ↦ value-same m (n, x) [] same ∙ sym (cond-true (bytes_eq n m) (x ∷ []) [] same)
        | inr other ↦ value-other m (n, x) [] other ∙ sym (cond-false (bytes_eq n m) (x ∷ []) [] other)
      ])

  abbrev pub tabled : (Name → List X) → List Name → List (Name × List X)
  tabled f fs = map (λ m. (m, f m)) fs
