-- A table that is filled name by name: there is room for each, and each stands where its probe first comes by.
use Rattle.std.proofs.Common.{◌≡◌, ◌≢◌, ◌⊎◌, ℕ, zero, suc, ◌+◌, ◌*◌, ◌^◌, ◌<◌, ◌≤◌, cond, eqb, List, [], ◌∷◌, ◌++◌, length, take, get_or, set, refl, sym, ap, subst, ◌∙◌, arith, inl, inr}
use Rattle.std.specs.Prelude.{replicate}
use Rattle.std.specs.List.{All, Contains}
use Rattle.std.specs.Int.{IsPowerOfTwo}
use Rattle.std.proofs.lemmas.Bool.{cases_eq, eq-eqb, ne_eqb}
use Rattle.std.proofs.lemmas.List.{length-map, length_push, get_or_push, get_or_append_left, take-append-le, take_all, get_or_default, get_or-map, get_or-set_same, get_or-set_other, length-set, length-replicate, get_or-replicate}
use Rattle.std.proofs.lemmas.Nat.{mod_below}
use Rattle.std.proofs.lemmas.List.Elements.{All-replicate, All-set, All-from_get_or, Contains-append_left, Contains-push, Contains-get_or}
use Rattle.std.proofs.lemmas.List.Sums.{sum_by_more, sum_by-take-le, get_or-le-sum_by}
use Rattle.gdb_index_format.specs.Hash.{name_hash}
use Rattle.gdb_index_format.specs.Slots.{slot_of}
use Rattle.gdb_index_format.specs.declared.name_words.NameWords.{NameWords}
use Rattle.gdb_index_format.specs.Named.{Named, named, all_named}
use Rattle.gdb_index.specs.Table.{Slot, free_slot, table_bytes}
use Rattle.gdb_index.specs.steps.FreeSlots.{zero_table, with_slot, IsFree, IsFirstFree, HasFreeSlot, Inserts}
use Rattle.gdb_index.specs.steps.Passed.{steps_passed, ArePassed}
use Rattle.gdb_index.specs.Pool.{vector_len, name_len, vectors_len, names_len, vector_offset, name_offset}
use Rattle.gdb_index.specs.Filled.{IsFirstUnused, IsFilledTo, IsFilled, slot_for}
use Rattle.gdb_index.specs.steps.FilledBytes.{IsFilledTable}
use Rattle.gdb_index.proofs.SlotLists.{SlotFits, length-table, with_slot-table, free_in_bytes, free_in_both, taken_in_bytes, zeros-table}
use Rattle.gdb_index.proofs.OneProbe.{one_probe}

-- ---- a list that is shorter than n lacks a number below n

-- x is among the elements, by cases on the list
abbrev Has : List ℕ → ℕ → Type 0
Has [] s = ⊥
Has (x ∷ xs) s = (x ≡ s) ⊎ Has xs s

Has-from_Contains : (xs : List ℕ) (s k : ℕ) → k < length xs → get_or xs k s ≡ s → Has xs s
Has-from_Contains [] s k l e = absurd (omega arith)
Has-from_Contains (x ∷ xs) s zero l e = inl e
Has-from_Contains (x ∷ xs) s (suc k) l e = inr (Has-from_Contains xs s k (omega arith) e)

-- the list without one number
abbrev without : ℕ → List ℕ → List ℕ
without m [] = []
without m (x ∷ xs) = cond (eqb x m) (without m xs) (x ∷ without m xs)

has_or_lacks : (xs : List ℕ) (m : ℕ) → Has xs m ⊎ (Has xs m → ⊥)
has_or_lacks [] m = inr (λ h. h)
has_or_lacks (x ∷ xs) m =
    elim (cases_eq x m) [
      | inl same ↦ inl (inl same)
      | inr differ ↦ elim (has_or_lacks xs m) [
        | inl later ↦ inl (inr later)
        | inr never ↦ inr (λ h. elim h [ inl same ↦ differ same | inr later ↦ never later ])
      ]
    ]

without_at : (m x : ℕ) (xs : List ℕ) → x ≡ m → without m (x ∷ xs) ≡ without m xs
without_at m x xs e = ap (λ b. cond b (without m xs) (x ∷ without m xs)) (eq-eqb x m e)

without_past : (m x : ℕ) (xs : List ℕ) → (x ≡ m → ⊥) → without m (x ∷ xs) ≡ x ∷ without m xs
without_past m x xs e = ap (λ b. cond b (without m xs) (x ∷ without m xs)) (ne_eqb x m e)

without_shorter : (m : ℕ) (xs : List ℕ) → length (without m xs) ≤ length xs
without_shorter m [] = omega arith
without_shorter m (x ∷ xs) =
    elim (cases_eq x m) [
      | inl same ↦ omega (arith, ap length (without_at m x xs same), without_shorter m xs)
      | inr differ ↦ omega (arith, ap length (without_past m x xs differ), without_shorter m xs)
    ]

without_less : (m : ℕ) (xs : List ℕ) → Has xs m → length (without m xs) < length xs
without_less m [] h = absurd h
without_less m (x ∷ xs) h =
    elim (cases_eq x m) [
      | inl same ↦ omega (arith, ap length (without_at m x xs same), without_shorter m xs)
      | inr differ ↦ elim h [
        | inl same ↦ absurd (differ same)
        | inr later ↦ omega (arith, ap length (without_past m x xs differ), without_less m xs later)
      ]
    ]

without_keeps : (m s : ℕ) (xs : List ℕ) → (s ≡ m → ⊥) → Has xs s → Has (without m xs) s
without_keeps m s [] apart h = absurd h
without_keeps m s (x ∷ xs) apart h =
    elim (cases_eq x m) [
      | inl same ↦ subst (λ ys. Has ys s) (sym (without_at m x xs same)) (elim h [
        | inl is ↦ absurd (apart (sym is ∙ same))
        | inr later ↦ without_keeps m s xs apart later
      ])
      | inr differ ↦ subst (λ ys. Has ys s) (sym (without_past m x xs differ)) (elim h [
        | inl is ↦ inl is
        | inr later ↦ inr (without_keeps m s xs apart later)
      ])
    ]

some_lacking : (n : ℕ) (xs : List ℕ) → length xs < n → (s : ℕ) × (s < n) × (Has xs s → ⊥)
some_lacking zero xs short = absurd (omega arith)
some_lacking (suc m) xs short =
    elim (has_or_lacks xs m) [
      | inl has ↦
          let rest = some_lacking m (without m xs) (omega (arith, without_less m xs has)) in
          (rest.0, omega (arith, rest.1), λ h. rest.2 (without_keeps m rest.0 xs (λ e. omega (arith, rest.1)) h))
      | inr lacks ↦ (m, omega arith, lacks)
    ]

pub some_absent : (n : ℕ) (xs : List ℕ) → length xs < n → (s : ℕ) × (s < n) × (Contains xs s → ⊥)
some_absent n xs short =
    let found = some_lacking n xs short in
    (found.0, found.1, λ h. found.2 (Has-from_Contains xs found.0 h.0 h.1 h.2))

-- so many different numbers, all of them among the elements, are at most as many as the elements
fewer_by_cases : (f : ℕ → ℕ) (k : ℕ) (xs : List ℕ) → ((j : ℕ) → j < k → Has xs (f j)) → ((i j : ℕ) → i < k → j < k → f i ≡ f j → i ≡ j) → k ≤ length xs
fewer_by_cases f zero xs all apart = omega arith
fewer_by_cases f (suc k) xs all apart =
    let rest : k ≤ length (without (f k) xs) =
    fewer_by_cases f k (without (f k) xs)
    (λ j l. without_keeps (f k) (f j) xs (λ e. omega (arith, apart j k (omega arith) (omega arith) e)) (all j (omega arith)))
    (λ i j li lj e. apart i j (omega arith) (omega arith) e) in
    omega (arith, without_less (f k) xs (all k (omega arith)))

pub fewer_distinct : (f : ℕ → ℕ) (k : ℕ) (xs : List ℕ) (n : ℕ) → length xs ≡ n → ((j : ℕ) → j < k → Contains xs (f j)) → ((i j : ℕ) → i < k → j < k → f i ≡ f j → i ≡ j) → k ≤ n
fewer_distinct f k xs n len all apart =
    omega (arith, len, fewer_by_cases f k xs (λ j l. let h = all j l in Has-from_Contains xs (f j) h.0 h.1 h.2) apart)

-- ---- the table

-- the bytes of a table in which the first n names stand
pub record FillsTo (table : List ℕ) (slots : ℕ) (ns : List Named) (n : ℕ) : Type 0 where
  pub held : List Slot
  pub bytes_are : table ≡ table_bytes held
  pub fit : All SlotFits held
  pub filled : IsFilledTo held slots ns n

-- no name stands at the start of the pool
pub name_offset-pos : (ns : List Named) (i : ℕ) (d : Named) → i < length ns → 0 < name_offset ns i
name_offset-pos ns i d l = omega (arith, get_or-le-sum_by vector_len ns i d l)

taken : (table : List ℕ) (slots : ℕ) (ns : List Named) (n s : ℕ) (d : Named) (f : FillsTo table slots ns n) → s < slots → n ≤ length ns → Contains f.filled.used_slots s → IsFree table s → ⊥
taken table slots ns n s d f below within (k, l, is) free =
    let at : get_or f.filled.used_slots k 0 ≡ s = get_or_default f.filled.used_slots k 0 s l ∙ is in
    let here : get_or f.held s free_slot ≡ slot_for ns k = ap (λ x. get_or f.held x free_slot) (sym at) ∙ f.filled.stands k (omega (arith, f.filled.count, l)) in
    taken_in_bytes f.held s (slot_for ns k) (omega (arith, below, f.filled.len)) f.fit here (name_offset-pos ns k d (omega (arith, f.filled.count, l))) (subst (λ t. IsFree t s) f.bytes_are free)

pub is_free_at : (table : List ℕ) (slots : ℕ) (ns : List Named) (n : ℕ) (f : FillsTo table slots ns n) (s : ℕ) → s < slots → (Contains f.filled.used_slots s → ⊥) → IsFree table s
is_free_at table slots ns n f s below lacks =
    subst (λ t. IsFree t s) (sym f.bytes_are) (free_in_bytes f.held s (omega (arith, below, f.filled.len)) f.fit (f.filled.free s below lacks))

pub has_room : (table : List ℕ) (slots : ℕ) (ns : List Named) (n : ℕ) → FillsTo table slots ns n → n < slots → IsPowerOfTwo slots → HasFreeSlot table slots
has_room table slots ns n f less power =
    let found = some_absent slots f.filled.used_slots (omega (arith, f.filled.count, less)) in
    record {
      power_of_two = power;
      len = ap length f.bytes_are ∙ length-table f.held ∙ ap (λ k. 8 * k) f.filled.len;
      free = (found.0, found.1, is_free_at table slots ns n f found.0 found.1 found.2);
    }

-- a table of zeros, in which no name stands
pub fills_none : (slots : ℕ) (ns : List Named) → FillsTo (zero_table slots) slots ns 0
fills_none slots ns = record {
  held = replicate slots free_slot;
  bytes_are = zeros-table slots;
  fit = All-replicate SlotFits slots free_slot (omega arith, omega arith);
  filled = record {
    used_slots = [];
    count = refl;
    len = length-replicate slots free_slot;
    placed = λ i d l. absurd (omega arith);
    stands = λ i l. absurd (omega arith);
    free = λ s l lacks. get_or-replicate slots s free_slot free_slot l;
  };
}

pub contains_or_lacks : (xs : List ℕ) (s : ℕ) → Contains xs s ⊎ (Contains xs s → ⊥)
contains_or_lacks xs s = elim (has_or_lacks xs s) [
  | inl has ↦ inl (Contains-from_Has xs s has)
  | inr lacks ↦ inr (λ h. lacks (Has-from_Contains xs s h.0 h.1 h.2))
] where
  Contains-from_Has : (xs : List ℕ) (s : ℕ) → Has xs s → Contains xs s
  Contains-from_Has [] s h = absurd h
  Contains-from_Has (x ∷ xs) s (inl is) = (0, omega arith, is)
  Contains-from_Has (x ∷ xs) s (inr later) = let c = Contains-from_Has xs s later in (suc c.0, omega (arith, c.1), c.2)

pub slot_below : (slots hash k : ℕ) → 0 < slots → slot_of slots hash k < slots
unfolding slot_of
slot_below slots hash k some = mod_below _ slots some

placed_kept : (slots : ℕ) (ns : List Named) (used_slots all : List ℕ) (i : ℕ) (e : Named) → take i all ≡ take i used_slots → get_or all i 0 ≡ get_or used_slots i 0 → IsFirstUnused slots (take i used_slots) (name_hash (get_or ns i e).name) (get_or used_slots i 0) → IsFirstUnused slots (take i all) (name_hash (get_or ns i e).name) (get_or all i 0)
placed_kept slots ns used_slots all i e front at h =
    subst (λ used. IsFirstUnused slots used (name_hash (get_or ns i e).name) (get_or all i 0)) (sym front)
    (subst (λ s. IsFirstUnused slots (take i used_slots) (name_hash (get_or ns i e).name) s) (sym at) h)

placed_last : (slots : ℕ) (ns : List Named) (used_slots all : List ℕ) (n i : ℕ) (d e : Named) (s step : ℕ) → i ≡ n → length used_slots ≡ n → take n all ≡ take n used_slots → get_or all n 0 ≡ slot_of slots (name_hash (get_or ns n d).name) step → n < length ns → step < slots → (Contains used_slots (slot_of slots (name_hash (get_or ns n d).name) step) → ⊥) → ((j : ℕ) → j < step → Contains used_slots (slot_of slots (name_hash (get_or ns n d).name) j)) → IsFirstUnused slots (take i all) (name_hash (get_or ns i e).name) (get_or all i 0)
placed_last slots ns used_slots all n i d e s step same count front at less below unused others =
    let hash = name_hash (get_or ns n d).name in
    let whole : take n all ≡ used_slots = front ∙ take_all n used_slots (omega (arith, count)) in
    let names : hash ≡ name_hash (get_or ns n e).name = ap (λ (x : Named). name_hash x.name) (get_or_default ns n d e less) in
    let used : IsFirstUnused slots used_slots hash (slot_of slots hash step) = record { step = step; below = below; is = refl; unused = unused; others = others } in
    subst (λ k. IsFirstUnused slots (take k all) (name_hash (get_or ns k e).name) (get_or all k 0)) (sym same)
    (subst (λ x. IsFirstUnused slots x (name_hash (get_or ns n e).name) (get_or all n 0)) (sym whole)
    (subst (λ x. IsFirstUnused slots used_slots (name_hash (get_or ns n e).name) x) (sym at)
    (subst (λ x. IsFirstUnused slots used_slots x (slot_of slots hash step)) names used)))

stands_last : (held : List Slot) (ns : List Named) (all : List ℕ) (n i s : ℕ) → i ≡ n → get_or all n 0 ≡ s → get_or held s free_slot ≡ slot_for ns n → get_or held (get_or all i 0) free_slot ≡ slot_for ns i
stands_last held ns all n i s same at h =
    ap (λ k. get_or held (get_or all k 0) free_slot) same ∙ ap (λ x. get_or held x free_slot) at ∙ h ∙ ap (slot_for ns) (sym same)

-- one more name
pub fills_more : (old new : List ℕ) (slots : ℕ) (ns : List Named) (n : ℕ) (d : Named) → FillsTo old slots ns n → n < length ns → IsPowerOfTwo slots → SlotFits (slot_for ns n) → Inserts old new slots (name_hash (get_or ns n d).name) (slot_for ns n) → FillsTo new slots ns (n + 1)
fills_more old new slots ns n d g less power fits ins =
    let f = g.filled in
    let hash = name_hash (get_or ns n d).name in
    let s = slot_of slots hash ins.step in
    let below : s < slots = slot_below slots hash ins.step (omega (arith, ins.first.below)) in
    let within : s < length g.held = omega (arith, below, f.len) in
    let unused : Contains f.used_slots s → ⊥ = λ h. taken old slots ns n s d g below (omega (arith, less)) h ins.first.free in
    let all = f.used_slots ++ s ∷ [] in
    let held = set g.held s (slot_for ns n) in
    let last : get_or all n 0 ≡ s = get_or_push f.used_slots s 0 n f.count in
    let kept : (i : ℕ) → i < n → get_or all i 0 ≡ get_or f.used_slots i 0 = λ i l. get_or_append_left f.used_slots (s ∷ []) 0 i (omega (arith, f.count)) in
    let fronts : (i : ℕ) → i ≤ n → take i all ≡ take i f.used_slots = λ i l. take-append-le i f.used_slots (s ∷ []) (omega (arith, f.count)) in
    record {
      held = held;
      bytes_are = ins.puts ∙ ap (λ t. with_slot t s (slot_for ns n)) g.bytes_are ∙ with_slot-table g.held s (slot_for ns n) within;
      fit = All-set SlotFits g.held s (slot_for ns n) fits g.fit;
      filled = record {
        used_slots = all;
        count = length_push f.used_slots s ∙ ap (λ x. x + 1) f.count;
        len = length-set g.held s (slot_for ns n) ∙ f.len;
        placed = λ i e l. elim (cases_eq i n) [
          | inl same ↦ placed_last slots ns f.used_slots all n i d e s ins.step same f.count (fronts n (omega arith)) last less ins.first.below unused
              (λ j lt. elim (contains_or_lacks f.used_slots (slot_of slots hash j)) [
                | inl has ↦ has
                | inr lacks ↦ absurd (ins.first.first j lt (is_free_at old slots ns n g (slot_of slots hash j) (slot_below slots hash j (omega (arith, ins.first.below))) lacks))
              ])
          | inr differ ↦ placed_kept slots ns f.used_slots all i e (fronts i (omega arith)) (kept i (omega arith)) (f.placed i e (omega arith))
        ];
        stands = λ i l. elim (cases_eq i n) [
          | inl same ↦ stands_last held ns all n i s same last (get_or-set_same g.held s (slot_for ns n) free_slot within)
          | inr differ ↦
              let apart : get_or f.used_slots i 0 ≢ s = λ e. unused (subst (λ x. Contains f.used_slots x) e (Contains-get_or f.used_slots i 0 (omega (arith, f.count)))) in
              ap (λ x. get_or held x free_slot) (kept i (omega arith)) ∙ get_or-set_other g.held s (get_or f.used_slots i 0) (slot_for ns n) free_slot apart ∙ f.stands i (omega arith)
        ];
        free = λ r l lacks.
            let lacked : Contains f.used_slots r → ⊥ = λ h. lacks (Contains-append_left f.used_slots (s ∷ []) r h) in
            let apart : r ≢ s = λ e. lacks (subst (λ x. Contains all x) (sym e) (Contains-push f.used_slots s)) in
            get_or-set_other g.held s r (slot_for ns n) free_slot apart ∙ f.free r l lacked;
      };
    }

-- a slot that is free after a name was put was free before, and is another than the name's
still_taken : (old new : List ℕ) (slots : ℕ) (ns : List Named) (n : ℕ) (g : FillsTo old slots ns n) (here : ℕ) (x : Slot) → here < slots → SlotFits x → 0 < x.name → new ≡ with_slot old here x → (s : ℕ) → s < slots → IsFree new s → IsFree old s × (s ≡ here → ⊥)
still_taken old new slots ns n g here x below fits some puts s inside free =
    let held = set g.held here x in
    let len : length held ≡ slots = length-set g.held here x ∙ g.filled.len in
    let fit : All SlotFits held = All-set SlotFits g.held here x fits g.fit in
    let bytes : new ≡ table_bytes held = puts ∙ ap (λ t. with_slot t here x) g.bytes_are ∙ with_slot-table g.held here x (omega (arith, below, g.filled.len)) in
    let freed : IsFree (table_bytes held) s = subst (λ t. IsFree t s) bytes free in
    let apart : s ≡ here → ⊥ =
    λ same. taken_in_bytes held s x (omega (arith, inside, len)) fit (ap (λ k. get_or held k free_slot) same ∙ get_or-set_same g.held here x free_slot (omega (arith, below, g.filled.len))) some freed in (
      subst (λ t. IsFree t s) (sym g.bytes_are) (free_in_both held g.held s (omega (arith, inside, len)) (omega (arith, inside, g.filled.len)) fit g.fit (get_or-set_other g.held here s x free_slot apart) freed),
      apart,
    )

-- what is noted of the probes after one more name was put
pub passed_more : (old new passed after : List ℕ) (slots : ℕ) (ns : List Named) (n : ℕ) (g : FillsTo old slots ns n) (hash start step : ℕ) (x : Slot)
    → IsPowerOfTwo slots → slots < 2 ^ 32 → SlotFits x → 0 < x.name → IsFirstFree old slots hash step → new ≡ with_slot old (slot_of slots hash step) x → start ≡ slot_of slots hash 0
    → steps_passed after start ≤ step + 1 → ((s : ℕ) → (s ≡ start → ⊥) → steps_passed after s ≡ steps_passed passed s) → ArePassed old passed slots → ArePassed new after slots
passed_more old new passed after slots ns n g hash start step x power small fits some first puts begins noted others before other j below free =
    let inside : slot_of slots other j < slots = slot_below slots other j (omega (arith, first.below)) in
    let was = still_taken old new slots ns n g (slot_of slots hash step) x (slot_below slots hash step (omega (arith, first.below))) fits some puts (slot_of slots other j) inside free in
    elim (cases_eq (slot_of slots other 0) start) [
      | inl same ↦
          let one : slot_of slots other j ≡ slot_of slots hash j = one_probe slots other hash j power small (same ∙ begins) in
          elim (cases_eq j step) [
            | inl last ↦ was.1 (one ∙ ap (slot_of slots hash) last)
            | inr differ ↦ first.first j (omega (arith, below, noted, ap (steps_passed after) same, differ)) (subst (λ s. IsFree old s) one was.0)
          ]
      | inr differ ↦ before other j (omega (arith, below, others (slot_of slots other 0) differ)) was.0
    ]

pub filled_table : (table : List ℕ) (slots : ℕ) (ns : List Named) (n : ℕ) → n ≡ length ns → FillsTo table slots ns n → IsFilledTable table slots ns
filled_table table slots ns n all f = record { table = f.held; filled = subst (λ k. IsFilledTo f.held slots ns k) all f.filled; bytes_are = f.bytes_are }

-- ---- the used_slots of the names

pub vector_offset_more : (ns : List Named) (i : ℕ) (d : Named) → i < length ns → vector_offset ns (i + 1) ≡ vector_offset ns i + vector_len (get_or ns i d)
vector_offset_more ns i d l = sum_by_more vector_len ns i d l

pub name_offset_more : (ns : List Named) (i : ℕ) (d : Named) → i < length ns → name_offset ns (i + 1) ≡ name_offset ns i + name_len (get_or ns i d)
name_offset_more ns i d l = omega (arith, sum_by_more name_len ns i d l)

pub used_fit : (ns : List Named) (i : ℕ) → (vector_offset ns i ≤ vectors_len ns) × (name_offset ns i ≤ vectors_len ns + names_len ns)
used_fit ns i = (sum_by-take-le vector_len ns i, omega (arith, sum_by-take-le name_len ns i))

-- every slot of a filled table fits its fields
pub slots_fit : (table : List Slot) (slots : ℕ) (ns : List Named) → IsFilled table slots ns → vectors_len ns + names_len ns < 2 ^ 32 → All SlotFits table
slots_fit table slots ns f small = All-from_get_or SlotFits table free_slot (λ s l.
    elim (contains_or_lacks f.used_slots s) [
      | inl has ↦
          let at : get_or f.used_slots has.0 0 ≡ s = get_or_default f.used_slots has.0 0 s has.1 ∙ has.2 in
          let here : get_or table s free_slot ≡ slot_for ns has.0 = ap (λ x. get_or table x free_slot) (sym at) ∙ f.stands has.0 (omega (arith, f.count, has.1)) in
          let within = used_fit ns has.0 in
          subst SlotFits (sym here) (omega (arith, within.1, small), omega (arith, within.0, small))
      | inr lacks ↦ subst SlotFits (sym (f.free s (omega (arith, f.len, l)) lacks)) (omega arith, omega arith)
    ])

-- ---- what the loop over the names needs of one name

pub record ItemFits (ns : List Named) (i vectors names : ℕ) : Type 0 where
  pub vector_fits : vector_offset ns i + vectors < 2 ^ 32
  pub name_fits : name_offset ns i + names < 2 ^ 32
  pub vector_more : vector_offset ns (i + 1) ≡ vector_offset ns i + vectors
  pub name_more : name_offset ns (i + 1) ≡ name_offset ns i + names

pub item_fits : (ns : List Named) (i : ℕ) (item : Named) → i < length ns → item ≡ get_or ns i item → vectors_len ns + names_len ns < 2 ^ 32 → ItemFits ns i (vector_len item) (name_len item)
item_fits ns i item l is fits =
    let vectors : vector_offset ns (i + 1) ≡ vector_offset ns i + vector_len item = vector_offset_more ns i item l ∙ ap (λ (x : Named). vector_offset ns i + vector_len x) (sym is) in
    let names : name_offset ns (i + 1) ≡ name_offset ns i + name_len item = name_offset_more ns i item l ∙ ap (λ (x : Named). name_offset ns i + name_len x) (sym is) in
    let within = used_fit ns (i + 1) in
    record { vector_fits = omega arith; name_fits = omega arith; vector_more = vectors; name_more = names }

pub item_is : (names : List NameWords) (i : ℕ) (item : NameWords) → i < length names → item ≡ get_or names i item → named item ≡ get_or (all_named names) i (named item)
item_is names i item l is = ap named is ∙ sym (get_or-map named names i item (named item) l)

-- the same of an item of the names as they are held
pub item_of : (names : List NameWords) (i : ℕ) (item : NameWords) → i < length names → item ≡ get_or names i item → vectors_len (all_named names) + names_len (all_named names) < 2 ^ 32 → ItemFits (all_named names) i (vector_len (named item)) (name_len (named item))
item_of names i item l is fits = item_fits (all_named names) i (named item) (omega (arith, l, length-map names named)) (item_is names i item l is) fits
