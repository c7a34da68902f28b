-- Bytes have at most one list of units, and fail at most at one offset by one cause.
use Rattle.std.proofs.Common.{◌≡◌, ℕ, zero, suc, ◌+◌, ◌<◌, ◌≤◌, List, [], ◌∷◌, length, take, get_or, refl, sym, ap, subst, ◌∙◌, arith, ◌≢◌, ◌⊎◌, inl, inr}
use Rattle.std.specs.List.{All}
use Rattle.std.proofs.lemmas.List.Sums.{sum_by-cons}
use Rattle.gdb_index_format.specs.declared.unit.CuBoundary.{CuBoundary}
use Rattle.gdb_index_format.specs.declared.unit.UnitFault.{UnitFault}
use Rattle.gdb_index_format.specs.declared.unit.UnitFault.TheVariants.{Truncated, InvalidLength}
use Rattle.elf_format.specs.Bytes.{u32_at}
use Rattle.gdb_index_format.specs.Units.{unit_length, total_length, IsUnitFront, IsUnitList, IsFault, FailsAt}

-- the units tile the bytes from an offset on
abbrev pub Tiles : List ℕ → ℕ → List CuBoundary → Type 0
Tiles b at [] = Unit {0}
Tiles b at (u ∷ us) = (u.offset ≡ at) × (u.length ≡ unit_length b at) × Tiles b (at + u.length) us

unit : CuBoundary
unit = record { offset = 0; length = 0 }

Tiles-from_places : (b : List ℕ) (us : List CuBoundary) (at : ℕ) → ((k : ℕ) (d : CuBoundary) → k < length us → (get_or us k d).offset ≡ at + total_length (take k us)) → All (λ u. u.length ≡ unit_length b u.offset) us → Tiles b at us
Tiles-from_places b [] at places lengths = tt
Tiles-from_places b (u ∷ us) at places lengths =
    let here : u.offset ≡ at = places 0 u (omega arith) ∙ omega arith in (
      here,
      lengths 0 u (omega arith) ∙ ap (unit_length b) here,
      Tiles-from_places b us (at + u.length)
          (λ k d l. places (suc k) d (omega arith) ∙ ap (λ x. at + x) (sum_by-cons (λ (x : CuBoundary). x.length) u (take k us)) ∙ omega arith)
          (λ k d l. lengths (suc k) d (omega arith)),
    )

pub Tiles-from_front : (b : List ℕ) (us : List CuBoundary) → IsUnitFront b us → Tiles b 0 us
Tiles-from_front b us front = Tiles-from_places b us 0 (λ k d l. front.offsets k d l ∙ omega arith) front.lengths

places_from_tiles : (b : List ℕ) (us : List CuBoundary) (at : ℕ) → Tiles b at us → (k : ℕ) (d : CuBoundary) → k < length us → (get_or us k d).offset ≡ at + total_length (take k us)
places_from_tiles b [] at t k d l = absurd (omega arith)
places_from_tiles b (u ∷ us) at t zero d l = t.0 ∙ omega arith
places_from_tiles b (u ∷ us) at t (suc k) d l = places_from_tiles b us (at + u.length) t.2 k d (omega arith) ∙ omega (arith, sum_by-cons (λ (x : CuBoundary). x.length) u (take k us))

lengths_from_tiles : (b : List ℕ) (us : List CuBoundary) (at : ℕ) → Tiles b at us → All (λ u. u.length ≡ unit_length b u.offset) us
lengths_from_tiles b [] at t k d l = absurd (omega arith)
lengths_from_tiles b (u ∷ us) at t zero d l = t.1 ∙ sym (ap (unit_length b) t.0)
lengths_from_tiles b (u ∷ us) at t (suc k) d l = lengths_from_tiles b us (at + u.length) t.2 k d (omega arith)

pub front_from_tiles : (b : List ℕ) (us : List CuBoundary) → Tiles b 0 us → total_length us ≤ length b → IsUnitFront b us
front_from_tiles b us t within = record { offsets = λ k d l. places_from_tiles b us 0 t k d l ∙ omega arith; lengths = lengths_from_tiles b us 0 t; within = within }

pub list_from_tiles : (b : List ℕ) (us : List CuBoundary) → Tiles b 0 us → total_length us ≤ length b → length b < total_length us + 4 → IsUnitList b us
list_from_tiles b us t within rest = record { front = front_from_tiles b us t within; rest = rest }

-- a unit has at least four bytes
pub four_at_least : (b : List ℕ) (at : ℕ) → 4 ≤ unit_length b at
unfolding unit_length
four_at_least b at = grind arith

total_next : (u : CuBoundary) (us : List CuBoundary) → total_length (u ∷ us) ≡ u.length + total_length us
total_next u us = sum_by-cons (λ (x : CuBoundary). x.length) u us

same_unit : (u v : CuBoundary) → u.offset ≡ v.offset → u.length ≡ v.length → u ≡ v
same_unit u v p q = grind arith

one_tiling : (b : List ℕ) (at : ℕ) (us vs : List CuBoundary) → Tiles b at us → Tiles b at vs → at + total_length us ≤ length b → at + total_length vs ≤ length b → length b < at + total_length us + 4 → length b < at + total_length vs + 4 → us ≡ vs
one_tiling b at [] [] p q within_us within_vs rest_us rest_vs = refl
one_tiling b at [] (v ∷ vs) p q within_us within_vs rest_us rest_vs = absurd (omega (arith, total_next v vs, q.1, four_at_least b at))
one_tiling b at (u ∷ us) [] p q within_us within_vs rest_us rest_vs = absurd (omega (arith, total_next u us, p.1, four_at_least b at))
one_tiling b at (u ∷ us) (v ∷ vs) p q within_us within_vs rest_us rest_vs =
    let same : u ≡ v = same_unit u v (p.0 ∙ sym q.0) (p.1 ∙ sym q.1) in
    let lengths : u.length ≡ v.length = p.1 ∙ sym q.1 in
    let moved : Tiles b (at + u.length) vs = subst (λ n. Tiles b (at + n) vs) (sym lengths) q.2 in
    let rests : us ≡ vs = one_tiling b (at + u.length) us vs p.2 moved (omega (arith, total_next u us)) (omega (arith, total_next v vs)) (omega (arith, total_next u us)) (omega (arith, total_next v vs)) in
    ap (λ x. x ∷ us) same ∙ ap (λ xs. v ∷ xs) rests

pub one_list : (b : List ℕ) (us vs : List CuBoundary) → IsUnitList b us → IsUnitList b vs → us ≡ vs
one_list b us vs p q = one_tiling b 0 us vs (Tiles-from_front b us p.front) (Tiles-from_front b vs q.front) (omega (arith, p.front.within)) (omega (arith, q.front.within)) (omega (arith, p.rest)) (omega (arith, q.rest))

-- where a list goes on, the unit that begins there lies within the bytes
within_at : (b : List ℕ) (at : ℕ) (us vs : List CuBoundary) → Tiles b at us → Tiles b at vs → at + total_length us ≤ length b → length b < at + total_length us + 4 → at + total_length vs + 4 ≤ length b → at + total_length vs + unit_length b (at + total_length vs) ≤ length b
within_at b at [] vs p q within rest room = absurd (omega arith)
within_at b at (u ∷ us) [] p q within rest room = omega (arith, total_next u us, p.1, ap (unit_length b) (plain at)) where
  plain : (n : ℕ) → n + 0 ≡ n
  plain n = omega arith
within_at b at (u ∷ us) (v ∷ vs) p q within rest room =
    let lengths : u.length ≡ v.length = p.1 ∙ sym q.1 in
    let moved : Tiles b (at + u.length) vs = subst (λ n. Tiles b (at + n) vs) (sym lengths) q.2 in
    let same : at + u.length + total_length vs ≡ at + total_length (v ∷ vs) = omega (arith, total_next v vs) in
    let ends : at + u.length + total_length vs + unit_length b (at + u.length + total_length vs) ≤ length b = within_at b (at + u.length) us vs p.2 moved (omega (arith, total_next u us)) (omega (arith, total_next u us)) (omega (arith, total_next v vs)) in
    subst (λ n. n + unit_length b n ≤ length b) same ends

twelve : (b : List ℕ) (at : ℕ) → u32_at b at ≡ 4294967295 → 12 ≤ unit_length b at
unfolding unit_length
twelve b at e = rw e (omega arith)

no_fault : (b : List ℕ) (at : ℕ) (fault : UnitFault) → IsFault b at fault → at + unit_length b at ≤ length b → ⊥
no_fault b at Truncated cause within = omega (arith, twelve b at cause.0, cause.1)
no_fault b at InvalidLength cause within = omega (arith, cause.1)

pub no_list : (b : List ℕ) (us : List CuBoundary) (at : ℕ) (fault : UnitFault) → IsUnitList b us → FailsAt b at fault → ⊥
no_list b us at fault p q =
    let ends : 0 + total_length q.units + unit_length b (0 + total_length q.units) ≤ length b = within_at b 0 us q.units (Tiles-from_front b us p.front) (Tiles-from_front b q.units q.front) (omega (arith, p.front.within)) (omega (arith, p.rest)) (omega (arith, q.room, q.ends)) in
    let place : 0 + total_length q.units ≡ at = omega (arith, q.ends) in
    no_fault b at fault q.cause (subst (λ n. n + unit_length b n ≤ length b) place ends)

-- tilings that both end where the next unit would end after the bytes are the same
one_failing : (b : List ℕ) (at : ℕ) (us vs : List CuBoundary) → Tiles b at us → Tiles b at vs → at + total_length us ≤ length b → at + total_length vs ≤ length b → length b < at + total_length us + unit_length b (at + total_length us) → length b < at + total_length vs + unit_length b (at + total_length vs) → us ≡ vs
one_failing b at [] [] p q within_us within_vs ends_us ends_vs = refl
one_failing b at [] (v ∷ vs) p q within_us within_vs ends_us ends_vs = absurd (omega (arith, total_next v vs, q.1, ap (unit_length b) (plain at))) where
  plain : (n : ℕ) → n + 0 ≡ n
  plain n = omega arith
one_failing b at (u ∷ us) [] p q within_us within_vs ends_us ends_vs = absurd (omega (arith, total_next u us, p.1, ap (unit_length b) (plain at))) where
  plain : (n : ℕ) → n + 0 ≡ n
  plain n = omega arith
one_failing b at (u ∷ us) (v ∷ vs) p q within_us within_vs ends_us ends_vs =
    let lengths : u.length ≡ v.length = p.1 ∙ sym q.1 in
    let same : u ≡ v = same_unit u v (p.0 ∙ sym q.0) lengths in
    let moved : Tiles b (at + u.length) vs = subst (λ n. Tiles b (at + n) vs) (sym lengths) q.2 in
    let place_us : at + total_length (u ∷ us) ≡ at + u.length + total_length us = omega (arith, total_next u us) in
    let place_vs : at + total_length (v ∷ vs) ≡ at + u.length + total_length vs = omega (arith, total_next v vs) in
    let rests : us ≡ vs = one_failing b (at + u.length) us vs p.2 moved (omega arith) (omega arith) (subst (λ n. length b < n + unit_length b n) place_us ends_us) (subst (λ n. length b < n + unit_length b n) place_vs ends_vs) in
    ap (λ x. x ∷ us) same ∙ ap (λ xs. v ∷ xs) rests

beyond : (b : List ℕ) (at : ℕ) (fault : UnitFault) → IsFault b at fault → length b < at + unit_length b at
beyond b at Truncated cause = omega (arith, twelve b at cause.0, cause.1)
beyond b at InvalidLength cause = cause.1

one_front : (b : List ℕ) (p q : ℕ) (e f : UnitFault) (x : FailsAt b p e) (y : FailsAt b q f) → x.units ≡ y.units
one_front b p q e f x y = one_failing b 0 x.units y.units (Tiles-from_front b x.units x.front) (Tiles-from_front b y.units y.front) (omega (arith, x.front.within)) (omega (arith, y.front.within)) (ends p x.units x.ends (beyond b p e x.cause)) (ends q y.units y.ends (beyond b q f y.cause)) where
  ends : (n : ℕ) (us : List CuBoundary) → total_length us ≡ n → length b < n + unit_length b n → length b < 0 + total_length us + unit_length b (0 + total_length us)
  ends n us is h = let same : n ≡ 0 + total_length us = omega (arith, is) in subst (λ k. length b < k + unit_length b k) same h

pub one_place : (b : List ℕ) (p q : ℕ) (e f : UnitFault) → FailsAt b p e → FailsAt b q f → p ≡ q
one_place b p q e f x y = sym x.ends ∙ ap total_length (one_front b p q e f x y) ∙ y.ends

same_cause : (b : List ℕ) (at : ℕ) (e f : UnitFault) → IsFault b at e → IsFault b at f → e ≡ f
same_cause b at Truncated Truncated p q = refl
same_cause b at InvalidLength InvalidLength p q = refl
same_cause b at Truncated InvalidLength p q = absurd (no_both b at p.0 p.1 q.0) where
  no_both : (b : List ℕ) (at : ℕ) → u32_at b at ≡ 0xffffffff → length b < at + 12 → (u32_at b at ≢ 0xffffffff) ⊎ (at + 12 ≤ length b) → ⊥
  no_both b at e l (inl differ) = differ e
  no_both b at e l (inr room) = omega arith
same_cause b at InvalidLength Truncated p q = absurd (no_both b at q.0 q.1 p.0) where
  no_both : (b : List ℕ) (at : ℕ) → u32_at b at ≡ 0xffffffff → length b < at + 12 → (u32_at b at ≢ 0xffffffff) ⊎ (at + 12 ≤ length b) → ⊥
  no_both b at e l (inl differ) = differ e
  no_both b at e l (inr room) = omega arith

pub one_cause : (b : List ℕ) (p q : ℕ) (e f : UnitFault) → FailsAt b p e → FailsAt b q f → e ≡ f
one_cause b p q e f x y = same_cause b q e f (subst (λ n. IsFault b n e) (one_place b p q e f x y) x.cause) y.cause
