-- The units that relocations assign, as they are gone over from the first on.
use Rattle.std.proofs.Common.{◌≡◌, ℕ, zero, suc, ◌+◌, ◌≤◌, Bool, true, false, ◌||◌, List, [], ◌∷◌, length, drop, eqb, ◌&&◌, if◌then◌else◌, is_some, option_and_then, Option, Some, None, Ok, refl, sym, ap, ◌∙◌, subst, cond, ltb, arith, add-one}
use Rattle.std.specs.Prelude.{slice_get, find, not}
use Rattle.std.specs.List.{list_any, position_or_len}
use Rattle.std.proofs.lemmas.Bool.Decides.{nat_tests}
use Rattle.std.proofs.lemmas.List.{length-map}
use Rattle.std.specs.Option.{option_or}
use Rattle.std.proofs.Math.Seq.{drop-cons}
use Rattle.std.proofs.lemmas.List.{drop_all}
use Rattle.std.proofs.lemmas.Option.{slice_get_within, get_or_from_slice_get}
use Rattle.elf_format.specs.declared.crel.Crel.{Crel}
use Rattle.elf_format.specs.Class.{Class}
use Rattle.elf_format.specs.Symbol.{SymbolSection, no_section, in_section, missing}
use Rattle.elf_format.proofs.SearchLemmas.{or_none, or_later}
use Rattle.gdb_index_format.specs.declared.unit.CuBoundary.{CuBoundary}
use Rattle.gdb_index_format.specs.Units.{holds_offset, unit_holding}
use Rattle.gdb_index_format.specs.Addresses.{section_of_relocation, is_in, assigns, assigned_unit}
use Rattle.gdb_scan.specs.declared.map_error.MapError.{MapError}
use Rattle.gdb_scan.specs.declared.map_error.MapError.TheVariants.{Elf, NoMemory}
use Rattle.gdb_scan.specs.steps.SymbolCause.{IsSymbolCause}
use Rattle.gdb_scan.specs.Moved.{moved}
use Rattle.gdb_scan.specs.steps.Assigned.{assigned_by_symbol, assigned_by, assigned_in, lacks_symbol}

-- the list from an item on
pub front : {X : Type 0} (xs : List X) (i : ℕ) (x : X) → slice_get xs i ≡ Some x → drop i xs ≡ x ∷ drop (i + 1) xs
front xs i x e = drop-cons xs i x (slice_get_within xs i x e) ∙ ap (λ y. y ∷ drop (suc i) xs) (get_or_from_slice_get xs i x x e) ∙ ap (λ n. x ∷ drop n xs) (sym (add-one i))

no_front_suc : {X : Type 0} (xs : List X) (i : ℕ) → slice_get xs i ≡ None → drop i xs ≡ drop (suc i) xs
no_front_suc [] zero e = refl
no_front_suc [] (suc i) e = refl
no_front_suc (y ∷ ys) zero e = cc
no_front_suc (y ∷ ys) (suc i) e = no_front_suc ys i e

no_front : {X : Type 0} (xs : List X) (i : ℕ) → slice_get xs i ≡ None → drop i xs ≡ drop (i + 1) xs
no_front xs i e = rw add-one (no_front_suc xs i e)

-- a map holds what the relocations before an index assign, and each of these has its symbol
pub record Assigned (c : Class) (d : Bool) (file : List ℕ) (us : List CuBoundary) (base : ℕ) (rs : List Crel) (i : ℕ) (map : ℕ → Option ℕ) : Type 0 where
  pub units : (q : ℕ) → option_or (map q) (assigned_in c d file us base (drop i rs) q) ≡ assigned_in c d file us base rs q
  pub sound : list_any (lacks_symbol c d file) (drop i rs) ≡ list_any (lacks_symbol c d file) rs

module _ (c : Class) (d : Bool) (file : List ℕ) (us : List CuBoundary) (base : ℕ) (rs : List Crel) where
  pub assigned_start : (map : ℕ → Option ℕ) → ((q : ℕ) → map q ≡ None) → Assigned c d file us base rs 0 map
  assigned_start map none = record { units = λ q. ap (λ o. option_or o (assigned_in c d file us base rs q)) (none q); sound = refl }

  after : (old new here later whole : Option ℕ) → new ≡ option_or old here → option_or old (option_or here later) ≡ whole → option_or new later ≡ whole
  after old new here later whole p q = ap (λ o. option_or o later) p ∙ or_later old here later ∙ q

  one_fewer : (here later whole : Bool) → here ≡ false → (here || later) ≡ whole → later ≡ whole
  one_fewer here later whole p q = cc

  pub assigned_next : (i : ℕ) (r : Crel) (map new : ℕ → Option ℕ) → slice_get rs i ≡ Some r → lacks_symbol c d file r ≡ false → ((q : ℕ) → new q ≡ option_or (map q) (assigned_by c d file us base r q)) → Assigned c d file us base rs i map → Assigned c d file us base rs (i + 1) new
  assigned_next i r map new there sound noted so_far =
      let e = front rs i r there in
      record {
        units = λ q. after (map q) (new q) (assigned_by c d file us base r q) (assigned_in c d file us base (drop (i + 1) rs) q) (assigned_in c d file us base rs q) (noted q) (ap (λ l. option_or (map q) (assigned_in c d file us base l q)) (sym e) ∙ so_far.units q);
        sound = one_fewer (lacks_symbol c d file r) (list_any (lacks_symbol c d file) (drop (i + 1) rs)) (list_any (lacks_symbol c d file) rs) sound (ap (list_any (lacks_symbol c d file)) (sym e) ∙ so_far.sound);
      }

  pub assigned_skip : (i : ℕ) (map : ℕ → Option ℕ) → slice_get rs i ≡ None → Assigned c d file us base rs i map → Assigned c d file us base rs (i + 1) map
  assigned_skip i map none so_far =
      let e = no_front rs i none in
      record {
        units = λ q. ap (λ l. option_or (map q) (assigned_in c d file us base l q)) (sym e) ∙ so_far.units q;
        sound = ap (list_any (lacks_symbol c d file)) (sym e) ∙ so_far.sound;
      }

  nothing_left : (i : ℕ) → length rs ≤ i → drop i rs ≡ []
  nothing_left i past = drop_all i rs past

  pub assigned_all : (i : ℕ) (map : ℕ → Option ℕ) → length rs ≤ i → Assigned c d file us base rs i map → (q : ℕ) → map q ≡ assigned_in c d file us base rs q
  assigned_all i map past so_far q = sym (or_none (map q)) ∙ ap (λ l. option_or (map q) (assigned_in c d file us base l q)) (sym (nothing_left i past)) ∙ so_far.units q

  pub sound_all : (i : ℕ) (map : ℕ → Option ℕ) → length rs ≤ i → Assigned c d file us base rs i map → list_any (lacks_symbol c d file) rs ≡ false
  sound_all i map past so_far = sym so_far.sound ∙ ap (list_any (lacks_symbol c d file)) (nothing_left i past)

  one_of : (here later : Bool) → here ≡ true → (here || later) ≡ true
  one_of here later p = cc

  one_alone : (here : Bool) → (here || false) ≡ true → here ≡ true
  one_alone true e = refl
  one_alone false e = e

  pub assigned_fault : (i : ℕ) (r : Crel) (map : ℕ → Option ℕ) → slice_get rs i ≡ Some r → list_any (lacks_symbol c d file) (r ∷ []) ≡ true → Assigned c d file us base rs i map → list_any (lacks_symbol c d file) rs ≡ true
  assigned_fault i r map there fault so_far =
      sym so_far.sound ∙ ap (list_any (lacks_symbol c d file)) (front rs i r there)
      ∙ one_of (lacks_symbol c d file r) (list_any (lacks_symbol c d file) (drop (i + 1) rs)) (one_alone (lacks_symbol c d file r) fault)

  pub assigned_cause : (i : ℕ) (r : Crel) (map : ℕ → Option ℕ) (e : MapError) → slice_get rs i ≡ Some r → Assigned c d file us base rs i map → IsSymbolCause c d file (r ∷ []) e → IsSymbolCause c d file rs e
  assigned_cause i r map (Elf e) there so_far cause = (cause.0, assigned_fault i r map there cause.1 so_far)
  assigned_cause i r map NoMemory there so_far cause = tt

-- ---- the first that assigns

chosen : (f : Crel → Option ℕ) (r : Crel) (b : Bool) (rest : Option Crel) (w : Option ℕ) → w ≡ option_and_then f rest → option_or (if b then f r else None) w ≡ option_and_then f (if b && is_some (f r) then Some r else rest)
chosen f r b rest w p = by b (f r) refl where
  by : (b : Bool) (o : Option ℕ) → f r ≡ o → option_or (if b then o else None) w ≡ option_and_then f (if b && is_some o then Some r else rest)
  by true (Some u) e = sym e
  by true None e = p
  by false o e = p

first_assigned : (us vs : List CuBoundary) (base : ℕ) (r : Crel) (found : SymbolSection) (q : ℕ) (rest : Option Crel) (w : Option ℕ) → unit_holding vs (base + r.offset) ≡ unit_holding us r.offset → w ≡ option_and_then (λ x. unit_holding us x.offset) rest → option_or (assigned_by_symbol vs base r.offset found q) w ≡ option_and_then (λ x. unit_holding us x.offset) (if is_in q found && is_some (unit_holding us r.offset) then Some r else rest)
first_assigned us vs base r no_section q rest w same p = p
first_assigned us vs base r (in_section s) q rest w same p = ap (λ (o : Option ℕ). option_or (if eqb s q then o else None) w) same ∙ chosen (λ (x : Crel). unit_holding us x.offset) r (eqb s q) rest w p
first_assigned us vs base r missing q rest w same p = p

assigned_first : (c : Class) (d : Bool) (file : List ℕ) (us vs : List CuBoundary) (base : ℕ) (rs : List Crel) (q : ℕ) → ((offset : ℕ) → unit_holding vs (base + offset) ≡ unit_holding us offset) → assigned_in c d file vs base rs q ≡ assigned_unit c d file us q (Ok rs)
assigned_first c d file us vs base [] q same = refl
assigned_first c d file us vs base (r ∷ rs) q same = first_assigned us vs base r (section_of_relocation c d file r.symbol) q (find (assigns c d file us q) rs) (assigned_in c d file vs base rs q) (same r.offset) (assigned_first c d file us vs base rs q same)

-- ---- moved units

same_held : (base offset start size : ℕ) → holds_offset (base + offset) (record { offset = base + start; length = size }) ≡ holds_offset offset (record { offset = start; length = size })
same_held base offset start size = grind (arith, nat_tests)

holding_first : (base offset : ℕ) (us : List CuBoundary) → position_or_len (holds_offset (base + offset)) (moved base us) ≡ position_or_len (holds_offset offset) us
holding_first base offset [] = refl
holding_first base offset (u ∷ us) = step _ _ _ _ (same_held base offset u.offset u.length) (holding_first base offset us) where
  step : (a b : Bool) (m n : ℕ) → a ≡ b → m ≡ n → cond (not a) (1 + m) 0 ≡ cond (not b) (1 + n) 0
  step a b m n p q = cc (p, q)

holding_moved : (base : ℕ) (us : List CuBoundary) (offset : ℕ) → unit_holding (moved base us) (base + offset) ≡ unit_holding us offset
holding_moved base us offset = same _ _ _ _ (holding_first base offset us) (length-map us (λ (u : CuBoundary). let v : CuBoundary = record { offset = base + u.offset; length = u.length } in v)) where
  same : (m n k l : ℕ) → m ≡ n → k ≡ l → cond (ltb m k) (Some m) None ≡ cond (ltb n l) (Some n) None
  same m n k l p q = cc (p, q)

-- of units moved up by a base the relocations assign what they assign of the units themselves
pub assigned_moved : (c : Class) (d : Bool) (file : List ℕ) (us vs : List CuBoundary) (base : ℕ) (rs : List Crel) (q : ℕ) → vs ≡ moved base us → assigned_in c d file vs base rs q ≡ assigned_unit c d file us q (Ok rs)
assigned_moved c d file us vs base rs q is = subst (λ (xs : List CuBoundary). assigned_in c d file xs base rs q ≡ assigned_unit c d file us q (Ok rs)) (sym is) (assigned_first c d file us (moved base us) base rs q (holding_moved base us))

-- units are where they are
no_base : (n : ℕ) → n ≡ 0 + n
no_base n = omega arith

cons_same : (u v : CuBoundary) (us vs : List CuBoundary) → u ≡ v → us ≡ vs → u ∷ us ≡ v ∷ vs
cons_same u v us vs p q = cc (p, q)

pub moved_none : (us : List CuBoundary) → us ≡ moved 0 us
moved_none [] = refl
moved_none (u ∷ us) = cons_same u _ us _ (ap (λ (n : ℕ). let v : CuBoundary = record { offset = n; length = u.length } in v) (no_base u.offset)) (moved_none us)
