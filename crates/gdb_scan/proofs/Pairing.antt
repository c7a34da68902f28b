-- Lists of pairs that have the same groups.
use Rattle.std.proofs.Common.{◌≡◌, ◌≢◌, true, false, List, [], ◌∷◌, ◌++◌, map, refl, sym, ap, ◌∙◌, subst, append_assoc, inl, inr}
use Rattle.std.specs.List.{flat_map}
use Rattle.std.specs.Str.{bytes_eq}
use Rattle.std.proofs.lemmas.Bool.{cases_Bool}
use Rattle.std.proofs.lemmas.List.{append-nil, map-append}
use Rattle.gdb_index_format.specs.Published.{firsts}
use Rattle.gdb_scan.specs.Groups.{names_of, values_of, groups}
use Rattle.gdb_scan.proofs.Grouping.{Name, push_new, others, others-same, others-kept, same_from, eq_same, differ-sym, firsts-push, Lacks, Differ, Differ-firsts, Lacks-from_firsts, value-same, value-other, values-append, values_absent, tabled}

pub record Alike {X : Type 0} (ps qs : List (Name × X)) : Type 0 where
  pub order : firsts (names_of ps) ≡ firsts (names_of qs)
  pub values : (n : Name) → values_of n ps ≡ values_of n qs

firsts_left : (x y ns : List Name) → firsts x ≡ firsts y → firsts (x ++ ns) ≡ firsts (y ++ ns)
firsts_left x y [] e = ap firsts (append-nil x) ∙ e ∙ sym (ap firsts (append-nil y))
firsts_left x y (n ∷ ns) e =
    sym (ap firsts (append_assoc x (n ∷ []) ns))
    ∙ firsts_left (x ++ n ∷ []) (y ++ n ∷ []) ns (firsts-push x n ∙ ap (λ fs. push_new fs n) e ∙ sym (firsts-push y n))
    ∙ ap firsts (append_assoc y (n ∷ []) ns)

firsts_right : (ns x y : List Name) → firsts x ≡ firsts y → firsts (ns ++ x) ≡ firsts (ns ++ y)
firsts_right [] x y e = e
firsts_right (n ∷ ns) x y e = ap (λ fs. n ∷ others n fs) (firsts_right ns x y e)

-- the names of what others leaves, left out again
others-twice : (m : Name) (fs : List Name) → others m (others m fs) ≡ others m fs
others-twice m [] = refl
others-twice m (f ∷ fs) =
    elim (cases_Bool (bytes_eq f m)) [
      | inl gone ↦ ap (others m) (others-same m f fs gone) ∙ others-twice m fs ∙ sym (others-same m f fs gone)
      | inr kept ↦ ap (others m) (others-kept m f fs kept) ∙ others-kept m f (others m fs) kept ∙ ap (λ xs. f ∷ xs) (others-twice m fs) ∙ sym (others-kept m f fs kept)
    ]

pub others-lacks : (m : Name) (fs : List Name) → Lacks m fs → others m fs ≡ fs
others-lacks m [] h = refl
others-lacks m (f ∷ fs) h = others-kept m f fs (differ-sym m f h.0) ∙ ap (λ xs. f ∷ xs) (others-lacks m fs h.1)

module _ {X : Type 0} where
  pub Alike-append : (a b c d : List (Name × X)) → Alike a b → Alike c d → Alike (a ++ c) (b ++ d)
  Alike-append a b c d p q = record {
    order =
        ap firsts (map-append (λ (x : Name × X). x.0) a c)
        ∙ firsts_left (names_of a) (names_of b) (names_of c) p.order
        ∙ firsts_right (names_of b) (names_of c) (names_of d) q.order
        ∙ sym (ap firsts (map-append (λ (x : Name × X). x.0) b d));
    values = λ n. values-append n a c ∙ ap (λ v. v ++ values_of n c) (p.values n) ∙ ap (λ v. values_of n b ++ v) (q.values n) ∙ sym (values-append n b d);
  }

  pub groups_alike : (ps qs : List (Name × X)) → Alike ps qs → groups ps ≡ groups qs
  groups_alike ps qs h = λ i. map (λ n. (n, h.values n i)) (h.order i)

  -- ---- groups, as pairs again

  abbrev pub tagged : Name × List X → List (Name × X)
  tagged g = map (λ x. (g.0, x)) g.1

  abbrev pub ungrouped : List (Name × List X) → List (Name × X)
  ungrouped gs = flat_map tagged gs

  tagged_own : (n m : Name) (xs : List X) → bytes_eq m n ≡ true → values_of n (tagged (m, xs)) ≡ xs
  tagged_own n m [] e = refl
  tagged_own n m (x ∷ xs) e = value-same n (m, x) (tagged (m, xs)) e ∙ ap (λ v. x ∷ v) (tagged_own n m xs e)

  tagged_other : (n m : Name) (xs : List X) → bytes_eq m n ≡ false → values_of n (tagged (m, xs)) ≡ []
  tagged_other n m [] e = refl
  tagged_other n m (x ∷ xs) e = value-other n (m, x) (tagged (m, xs)) e ∙ tagged_other n m xs e

  table_absent : (f : Name → List X) (n : Name) (fs : List Name) → Lacks n fs → values_of n (ungrouped (tabled f fs)) ≡ []
  table_absent f n [] h = refl
  table_absent f n (m ∷ fs) h =
      values-append n (tagged (m, f m)) (ungrouped (tabled f fs))
      ∙ ap (λ v. v ++ values_of n (ungrouped (tabled f fs))) (tagged_other n m (f m) (differ-sym n m h.0))
      ∙ table_absent f n fs h.1

  table_values : (f : Name → List X) (n : Name) (fs : List Name) → Differ fs → (Lacks n fs → f n ≡ []) → values_of n (ungrouped (tabled f fs)) ≡ f n
  table_values f n [] d absent = sym (absent tt)
  table_values f n (m ∷ fs) d absent =
      values-append n (tagged (m, f m)) (ungrouped (tabled f fs))
      ∙ elim (cases_Bool (bytes_eq n m)) [
        | inl same ↦
            let is : n ≡ m = same_from n m same in
            let own : bytes_eq m n ≡ true = subst (λ k. bytes_eq m k ≡ true) (sym is) (eq_same m) in
            ap (λ v. v ++ values_of n (ungrouped (tabled f fs))) (tagged_own n m (f m) own)
            ∙ ap (λ v. f m ++ v) (table_absent f n fs (subst (λ k. Lacks k fs) (sym is) d.0))
            ∙ append-nil (f m) ∙ ap f (sym is)
        | inr other ↦
            ap (λ v. v ++ values_of n (ungrouped (tabled f fs))) (tagged_other n m (f m) (differ-sym n m other))
            ∙ table_values f n fs d.1 (λ lacks. absent (other, lacks))
      ]

  -- each name of a table has a value
  abbrev pub HaveSome : (Name → List X) → List Name → Type 0
  HaveSome f [] = Unit {0}
  HaveSome f (m ∷ fs) = (f m ≢ []) × HaveSome f fs

  others_tagged : (m : Name) (xs : List X) (ns : List Name) → others m (firsts (names_of (tagged (m, xs)) ++ ns)) ≡ others m (firsts ns)
  others_tagged m [] ns = refl
  others_tagged m (x ∷ xs) ns =
      others-same m m (others m (firsts (names_of (tagged (m, xs)) ++ ns))) (eq_same m)
      ∙ others-twice m (firsts (names_of (tagged (m, xs)) ++ ns))
      ∙ others_tagged m xs ns

  firsts_tagged : (m : Name) (xs : List X) (ns : List Name) → xs ≢ [] → firsts (names_of (tagged (m, xs)) ++ ns) ≡ m ∷ others m (firsts ns)
  firsts_tagged m [] ns some = absurd (some refl)
  firsts_tagged m (x ∷ xs) ns some = ap (λ fs. m ∷ fs) (others_tagged m xs ns)

  table_order : (f : Name → List X) (fs : List Name) → Differ fs → HaveSome f fs → firsts (names_of (ungrouped (tabled f fs))) ≡ fs
  table_order f [] d some = refl
  table_order f (m ∷ fs) d some =
      ap firsts (map-append (λ (x : Name × X). x.0) (tagged (m, f m)) (ungrouped (tabled f fs)))
      ∙ firsts_tagged m (f m) (names_of (ungrouped (tabled f fs))) some.0
      ∙ ap (λ gs. m ∷ others m gs) (table_order f fs d.1 some.1)
      ∙ ap (λ gs. m ∷ gs) (others-lacks m fs d.0)

  HaveSome-others : (f : Name → List X) (m : Name) (fs : List Name) → HaveSome f fs → HaveSome f (others m fs)
  HaveSome-others f m [] h = tt
  HaveSome-others f m (k ∷ fs) h =
      elim (cases_Bool (bytes_eq k m)) [
        | inl gone ↦ subst (λ xs. HaveSome f xs) (sym (others-same m k fs gone)) (HaveSome-others f m fs h.1)
        | inr kept ↦ subst (λ xs. HaveSome f xs) (sym (others-kept m k fs kept)) (h.0, HaveSome-others f m fs h.1)
      ]

  more_some : (p : Name × X) (ps : List (Name × X)) (n : Name) → values_of n ps ≢ [] → values_of n (p ∷ ps) ≢ []
  more_some p ps n some none =
      elim (cases_Bool (bytes_eq p.0 n)) [
        | inl same ↦ not_nil p.1 (values_of n ps) (sym (value-same n p ps same) ∙ none)
        | inr other ↦ some (sym (value-other n p ps other) ∙ none)
      ] where
        not_nil : (x : X) (xs : List X) → x ∷ xs ≡ [] → ⊥
        not_nil x xs e = cc

  HaveSome-more : (p : Name × X) (ps : List (Name × X)) (fs : List Name) → HaveSome (λ n. values_of n ps) fs → HaveSome (λ n. values_of n (p ∷ ps)) fs
  HaveSome-more p ps [] h = tt
  HaveSome-more p ps (f ∷ fs) h = (more_some p ps f h.0, HaveSome-more p ps fs h.1)

  pub HaveSome-firsts : (ps : List (Name × X)) → HaveSome (λ n. values_of n ps) (firsts (names_of ps))
  HaveSome-firsts [] = tt
  HaveSome-firsts (p ∷ ps) = (
    λ none. not_nil p.1 (values_of p.0 ps) (sym (value-same p.0 p ps (eq_same p.0)) ∙ none),
    HaveSome-others (λ n. values_of n (p ∷ ps)) p.0 (firsts (names_of ps)) (HaveSome-more p ps (firsts (names_of ps)) (HaveSome-firsts ps)),
  ) where
    not_nil : (x : X) (xs : List X) → x ∷ xs ≡ [] → ⊥
    not_nil x xs e = cc

  pub Alike-ungrouped : (ps : List (Name × X)) → Alike (ungrouped (groups ps)) ps
  Alike-ungrouped ps = record {
    order = table_order (λ n. values_of n ps) (firsts (names_of ps)) (Differ-firsts (names_of ps)) (HaveSome-firsts ps);
    values = λ n. table_values (λ m. values_of m ps) n (firsts (names_of ps)) (Differ-firsts (names_of ps)) (λ lacks. values_absent n ps (Lacks-from_firsts n (names_of ps) lacks));
  }

-- ---- values that are changed one by one

module _ {X Y : Type 0} where
  abbrev pub mapped : (X → Y) → List (Name × X) → List (Name × Y)
  mapped h ps = map (λ p. (p.0, h p.1)) ps

  names-mapped : (h : X → Y) (ps : List (Name × X)) → names_of (mapped h ps) ≡ names_of ps
  names-mapped h [] = refl
  names-mapped h (p ∷ ps) = ap (λ ns. p.0 ∷ ns) (names-mapped h ps)

  values-mapped : (h : X → Y) (n : Name) (ps : List (Name × X)) → values_of n (mapped h ps) ≡ map h (values_of n ps)
  values-mapped h n [] = refl
  values-mapped h n (p ∷ ps) =
      elim (cases_Bool (bytes_eq p.0 n)) [
        | inl same ↦ value-same n (p.0, h p.1) (mapped h ps) same ∙ ap (λ v. h p.1 ∷ v) (values-mapped h n ps) ∙ sym (ap (map h) (value-same n p ps same))
        | inr other ↦ value-other n (p.0, h p.1) (mapped h ps) other ∙ values-mapped h n ps ∙ sym (ap (map h) (value-other n p ps other))
      ]

  pub Alike-mapped : (h : X → Y) (ps qs : List (Name × X)) → Alike ps qs → Alike (mapped h ps) (mapped h qs)
  Alike-mapped h ps qs p = record {
    order = ap firsts (names-mapped h ps) ∙ p.order ∙ sym (ap firsts (names-mapped h qs));
    values = λ n. values-mapped h n ps ∙ ap (map h) (p.values n) ∙ sym (values-mapped h n qs);
  }
