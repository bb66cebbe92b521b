-- What a search knows, and the path that it writes.
use Rattle.std.proofs.Common.{◌≡◌, ◌≢◌, ℕ, zero, suc, ◌+◌, ◌-◌, ◌*◌, ◌<◌, ℤ, pos, ◌≤ℤ◌, ◌<ℤ◌, inl, inr, Result, Ok, Err, OnOk, List, [], ◌∷◌, ◌++◌, length, length-append, set, length-set, get_or-set_same, get_or-set_other, unsigned_abs, refl, sym, ap, ◌∙◌, subst, arith}
use Rattle.std.proofs.lemmas.Bool.{cases_lt, cases_eq}
use Rattle.std.proofs.lemmas.List.{get_or_append_left, get_or-append_right}
use Rattle.std.proofs.lemmas.Int.{ints}
use Rattle.md_math.specs.Lists.{number_at}
use Rattle.md_flow.specs.Network.{Network, node_count, demand_count, room_of}
use Rattle.md_flow.specs.Labels.{spare_at, lack_at, label_at, top_of, AreLinked, AllFull}
use Rattle.md_flow.specs.Paths.{node_at, demand_at, last_of, IsTrail, IsLevelled}
use Rattle.md_flow.specs.Search.{IsEntry, AreEntries, AreKnown, EntersFrom, entry_at}

-- ---- one more entry

pub record IsNewEntry (net : Network) (x : ℕ → ℕ → ℤ) (labels entries before' : List ℕ) (d node : ℕ) : Type 0 where
  pub inside : node < node_count net
  pub room : x node d <ℤ room_of net node d
  pub first : label_at labels d ≡ 0 → pos 0 <ℤ spare_at net x node
  pub before_in : 0 < label_at labels d → entry_at before' d < demand_count net
  pub level : 0 < label_at labels d → label_at labels d ≡ label_at labels (entry_at before' d) + 1
  pub carrying : 0 < label_at labels d → pos 0 <ℤ x node (entry_at before' d)
  pub known : 0 < label_at labels d → entry_at entries (entry_at before' d) < node_count net

entry-set_same : (net : Network) (entries : List ℕ) (d node : ℕ) → length entries ≡ demand_count net → d < demand_count net → entry_at (set entries d node) d ≡ node
entry-set_same net entries d node l b = get_or-set_same entries d node 0 (omega arith)

pub entry-kept : (net : Network) (entries : List ℕ) (d node e : ℕ) → length entries ≡ demand_count net → d < demand_count net → node < node_count net → entry_at entries e < node_count net → entry_at (set entries d node) e < node_count net
entry-kept net entries d node e l b n k =
    elim (cases_eq e d) [
      | inl same ↦ omega (arith, ap (entry_at (set entries d node)) same, entry-set_same net entries d node l b)
      | inr apart ↦ omega (arith, get_or-set_other entries d e node 0 apart)
    ]

pub AreEntries-enter : (net : Network) (x : ℕ → ℕ → ℤ) (labels entries before before' : List ℕ) (d node : ℕ) → AreEntries net x labels entries before → d < demand_count net → length before' ≡ length before → ((e : ℕ) → e ≢ d → entry_at before' e ≡ entry_at before e) → IsNewEntry net x labels entries before' d node → AreEntries net x labels (set entries d node) before'
AreEntries-enter net x labels entries before before' d node h b l same new = record {
  one_entry = length-set entries d node ∙ h.one_entry;
  one_before = l ∙ h.one_before;
  at = λ e c k. elim (cases_eq e d) [ inl is ↦ subst (IsEntry net x labels (set entries d node) before') (sym is) here | inr apart ↦ there e c apart k ];
}
  where
    here : IsEntry net x labels (set entries d node) before' d
    here =
        let is = entry-set_same net entries d node h.one_entry b in
        record {
          room = rw is new.room;
          first = λ z. rw is (new.first z);
          inside = new.before_in;
          level = new.level;
          carrying = λ p. rw is (new.carrying p);
          known = λ p. entry-kept net entries d node (entry_at before' d) h.one_entry b new.inside (new.known p);
        }

    there : (e : ℕ) → e < demand_count net → e ≢ d → entry_at (set entries d node) e < node_count net → IsEntry net x labels (set entries d node) before' e
    there e c apart k =
        let is : entry_at (set entries d node) e ≡ entry_at entries e = get_or-set_other entries d e node 0 apart in
        let back : entry_at before' e ≡ entry_at before e = same e apart in
        let old = h.at e c (subst (λ v. v < node_count net) is k) in
        record {
          room = rw is old.room;
          first = λ z. rw is (old.first z);
          inside = λ p. rw back (old.inside p);
          level = λ p. rw back (old.level p);
          carrying = λ p. rw (is, back) (old.carrying p);
          known = λ p. rw back (entry-kept net entries d node (entry_at before e) h.one_entry b new.inside (old.known p));
        }

pub AreEntries-first : (net : Network) (x : ℕ → ℕ → ℤ) (labels entries before : List ℕ) (d node : ℕ) → AreEntries net x labels entries before → d < demand_count net → label_at labels d ≡ 0 → node < node_count net → x node d <ℤ room_of net node d → pos 0 <ℤ spare_at net x node → AreEntries net x labels (set entries d node) before
AreEntries-first net x labels entries before d node h b z inside room spare =
    AreEntries-enter net x labels entries before before d node h b refl (λ e _. refl) (record {
      inside = inside;
      room = room;
      first = λ _. spare;
      before_in = λ p. absurd (omega arith);
      level = λ p. absurd (omega arith);
      carrying = λ p. absurd (omega arith);
      known = λ p. absurd (omega arith);
    })

pub AreEntries-from : (net : Network) (x : ℕ → ℕ → ℤ) (labels entries entries' before before' : List ℕ) (other d : ℕ) → AreEntries net x labels entries before → d < demand_count net → other < demand_count net → label_at labels d ≡ label_at labels other + 1 → entry_at entries other < node_count net → EntersFrom net x other d entries entries' before before' → AreEntries net x labels entries' before'
AreEntries-from net x labels entries entries' before before' other d h b c level known f =
    let is : entry_at before' d ≡ other = ap (λ v. entry_at v d) f.before_is ∙ get_or-set_same before d other 0 (omega (arith, h.one_before)) in
    rw f.entries_are
    (AreEntries-enter net x labels entries before before' d f.node h b (ap length f.before_is ∙ length-set before d other) (λ e apart. ap (λ v. entry_at v e) f.before_is ∙ get_or-set_other before d e other 0 apart) (record {
      inside = f.inside;
      room = f.room;
      first = λ z. absurd (omega arith);
      before_in = λ _. rw is c;
      level = λ _. rw is level;
      carrying = λ _. rw is f.carrying;
      known = λ _. rw is known;
    }))

pub known_from : (net : Network) (x : ℕ → ℕ → ℤ) (entries entries' before before' : List ℕ) (other d : ℕ) → length entries ≡ demand_count net → d < demand_count net → EntersFrom net x other d entries entries' before before' → entry_at entries' d < node_count net
known_from net x entries entries' before before' other d l b f =
    let is = ap (λ v. entry_at v d) f.entries_are ∙ entry-set_same net entries d f.node l b in
    omega (arith, is, f.inside)

pub kept_from : (net : Network) (x : ℕ → ℕ → ℤ) (entries entries' before before' : List ℕ) (other d : ℕ) → length entries ≡ demand_count net → d < demand_count net → EntersFrom net x other d entries entries' before before' → (e : ℕ) → e < demand_count net → entry_at entries e < node_count net → entry_at entries' e < node_count net
kept_from net x entries entries' before before' other d l b f e c k =
    let is = ap (λ v. entry_at v e) f.entries_are in
    omega (arith, is, entry-kept net entries d f.node e l b f.inside k)

-- a linked demand with known demands before it is entered by a search of all nodes
pub none_linked : (net : Network) (x : ℕ → ℕ → ℤ) (labels entries : List ℕ) (d : ℕ) → AreLinked net x labels → AreKnown net labels entries (label_at labels d) → d < demand_count net → 0 < label_at labels d → label_at labels d < top_of net → ((e : ℕ) → e < demand_count net → label_at labels d ≡ label_at labels e + 1 → entry_at entries e < node_count net → (u : ℕ) → u < node_count net → x u d <ℤ room_of net u d → x u e ≤ℤ pos 0) → ⊥
none_linked net x labels entries d linked known b p l none =
    let w = linked.linked d b l in
    elim w.3 [
      | inl first ↦ omega (arith, first.0)
      | inr v ↦
          let k = known.known v.0 v.1 (omega (arith, v.3)) (omega (arith, v.3)) in
          omega (arith, ints, v.2, none v.0 v.1 v.3 k w.0 w.1 w.2)
    ]

pub none_first : (net : Network) (x : ℕ → ℕ → ℤ) (labels : List ℕ) (d : ℕ) → AreLinked net x labels → d < demand_count net → label_at labels d ≡ 0 → ((u : ℕ) → u < node_count net → x u d <ℤ room_of net u d → spare_at net x u ≤ℤ pos 0) → ⊥
none_first net x labels d linked b z none =
    let w = linked.linked d b (omega arith) in
    elim w.3 [
      | inl first ↦ (let q = none w.0 w.1 w.2 in omega (arith, ints, first.1, q))
      | inr v ↦ omega (arith, v.3)
    ]

-- ---- the path

-- the first k pairs of a path
pub record IsPart (net : Network) (x : ℕ → ℕ → ℤ) (labels : List ℕ) (path : List ℤ) (k : ℕ) : Type 0 where
  pub whole : length path ≡ 2 * k
  pub numbers : (i : ℕ) → i < length path → pos 0 ≤ℤ number_at path i
  pub nodes_in : (j : ℕ) → j < k → node_at path j < node_count net
  pub demands_in : (j : ℕ) → j < k → demand_at path j < demand_count net
  pub rooms : (j : ℕ) → j < k → x (node_at path j) (demand_at path j) <ℤ room_of net (node_at path j) (demand_at path j)
  pub levels : (j : ℕ) → j < k → label_at labels (demand_at path j) ≡ j
  pub carrying : (j : ℕ) → j + 1 < k → pos 0 <ℤ x (node_at path (j + 1)) (demand_at path j)
  pub spare : 0 < k → pos 0 <ℤ spare_at net x (node_at path 0)

pub IsPart-nil : (net : Network) (x : ℕ → ℕ → ℤ) (labels : List ℕ) → IsPart net x labels [] 0
IsPart-nil net x labels = record {
  whole = refl;
  numbers = λ i b. absurd (omega arith);
  nodes_in = λ j b. absurd (omega arith);
  demands_in = λ j b. absurd (omega arith);
  rooms = λ j b. absurd (omega arith);
  levels = λ j b. absurd (omega arith);
  carrying = λ j b. absurd (omega arith);
  spare = λ b. absurd (omega arith);
}

pair_node : (path : List ℤ) (k u d : ℕ) → length path ≡ 2 * k → node_at (path ++ pos u ∷ pos d ∷ []) k ≡ u
pair_node path k u d l = ap unsigned_abs (get_or-append_right path (pos u ∷ pos d ∷ []) (2 * k) (2 * k) (pos 0) l (omega arith) ∙ ap (number_at (pos u ∷ pos d ∷ [])) (let e : 2 * k - 2 * k ≡ 0 = omega arith in e))

pair_demand : (path : List ℤ) (k u d : ℕ) → length path ≡ 2 * k → demand_at (path ++ pos u ∷ pos d ∷ []) k ≡ d
pair_demand path k u d l = ap unsigned_abs (get_or-append_right path (pos u ∷ pos d ∷ []) (2 * k) (2 * k + 1) (pos 0) l (omega arith) ∙ ap (number_at (pos u ∷ pos d ∷ [])) (let e : 2 * k + 1 - 2 * k ≡ 1 = omega arith in e))

old_node : (path : List ℤ) (k u d j : ℕ) → length path ≡ 2 * k → j < k → node_at (path ++ pos u ∷ pos d ∷ []) j ≡ node_at path j
old_node path k u d j l b = ap unsigned_abs (get_or_append_left path (pos u ∷ pos d ∷ []) (pos 0) (2 * j) (omega arith))

old_demand : (path : List ℤ) (k u d j : ℕ) → length path ≡ 2 * k → j < k → demand_at (path ++ pos u ∷ pos d ∷ []) j ≡ demand_at path j
old_demand path k u d j l b = ap unsigned_abs (get_or_append_left path (pos u ∷ pos d ∷ []) (pos 0) (2 * j + 1) (omega arith))

pub IsPart-more : (net : Network) (x : ℕ → ℕ → ℤ) (labels : List ℕ) (path : List ℤ) (k u d : ℕ) → IsPart net x labels path k → u < node_count net → d < demand_count net → x u d <ℤ room_of net u d → label_at labels d ≡ k → (k ≡ 0 → pos 0 <ℤ spare_at net x u) → ((j : ℕ) → j + 1 ≡ k → pos 0 <ℤ x u (demand_at path j)) → IsPart net x labels (path ++ pos u ∷ pos d ∷ []) (k + 1)
IsPart-more net x labels path k u d h b c t level first later = record {
  whole = omega (arith, length-append path (pos u ∷ pos d ∷ []), h.whole);
  numbers = λ i p. elim (cases_lt i (length path)) [
    | inl l ↦ subst (λ z. pos 0 ≤ℤ z) (sym (get_or_append_left path (pos u ∷ pos d ∷ []) (pos 0) i l)) (h.numbers i l)
    | inr l ↦ subst (λ z. pos 0 ≤ℤ z) (sym (get_or-append_right path (pos u ∷ pos d ∷ []) (length path) i (pos 0) refl l)) (two (i - length path))
  ];
  nodes_in = λ j p. at j p (λ v e. v < node_count net) (λ l. rw (old_node path k u d j h.whole l) (h.nodes_in j l)) (λ e. rw (ap (node_at new) e ∙ pair_node path k u d h.whole) b);
  demands_in = λ j p. at j p (λ v e. v < node_count net) (λ l. rw (old_demand path k u d j h.whole l) (h.demands_in j l)) (λ e. rw (ap (demand_at new) e ∙ pair_demand path k u d h.whole) c);
  rooms = λ j p. at j p (λ v e. v < node_count net) (λ l. rw (old_node path k u d j h.whole l, old_demand path k u d j h.whole l) (h.rooms j l)) (λ e. rw (ap (node_at new) e ∙ pair_node path k u d h.whole, ap (demand_at new) e ∙ pair_demand path k u d h.whole) t);
  levels = λ j p. at j p (λ v e. v < node_count net) (λ l. rw (old_demand path k u d j h.whole l) (h.levels j l)) (λ e. rw (ap (demand_at new) e ∙ pair_demand path k u d h.whole) (level ∙ sym e));
  carrying = λ j p. rw (old_demand path k u d j h.whole (omega arith)) (at (j + 1) p (λ v e. v < node_count net) (λ l. rw (old_node path k u d (j + 1) h.whole l) (h.carrying j l)) (λ e. rw (ap (node_at new) e ∙ pair_node path k u d h.whole) (later j e)));
  spare = λ p. at 0 p (λ v e. v < node_count net) (λ l. rw (old_node path k u d 0 h.whole l) (h.spare l)) (λ e. rw (ap (node_at new) e ∙ pair_node path k u d h.whole) (first (sym e)));
}
  where
    new : List ℤ
    new = path ++ pos u ∷ pos d ∷ []

    two : (i : ℕ) → pos 0 ≤ℤ number_at (pos u ∷ pos d ∷ []) i
    two zero = omega (arith, ints)
    two (suc zero) = omega (arith, ints)
    two (suc (suc i)) = omega (arith, ints)

    at : {Q : Type 0} → (j : ℕ) → j < k + 1 → (ℕ → ℕ → Type 0) → (j < k → Q) → (j ≡ k → Q) → Q
    at j p _ f g = elim (cases_lt j k) [ inl l ↦ f l | inr l ↦ g (omega arith) ]

pub IsTrail-part : (net : Network) (x : ℕ → ℕ → ℤ) (labels : List ℕ) (path : List ℤ) (end : ℕ) → IsPart net x labels path (label_at labels end + 1) → demand_at path (label_at labels end) ≡ end → IsTrail net x labels path end
IsTrail-part net x labels path end h e = record {
  whole = h.whole;
  numbers = h.numbers;
  nodes_in = λ j l. h.nodes_in j (omega arith);
  demands_in = λ j l. h.demands_in j (omega arith);
  rooms = λ j l. h.rooms j (omega arith);
  levels = λ j l. h.levels j (omega arith);
  carrying = λ j l. h.carrying j (omega arith);
  spare = h.spare (omega arith);
  last = e;
}

IsPart-trail : (net : Network) (x : ℕ → ℕ → ℤ) (labels : List ℕ) (path : List ℤ) (end : ℕ) → IsTrail net x labels path end → IsPart net x labels path (label_at labels end + 1)
IsPart-trail net x labels path end h = record {
  whole = h.whole;
  numbers = h.numbers;
  nodes_in = λ j l. h.nodes_in j (omega arith);
  demands_in = λ j l. h.demands_in j (omega arith);
  rooms = λ j l. h.rooms j (omega arith);
  levels = λ j l. h.levels j (omega arith);
  carrying = λ j l. h.carrying j (omega arith);
  spare = λ _. h.spare;
}

pub IsTrail-first : (net : Network) (x : ℕ → ℕ → ℤ) (labels entries before : List ℕ) (path new : List ℤ) (d : ℕ) → AreEntries net x labels entries before → d < demand_count net → entry_at entries d < node_count net → label_at labels d ≡ 0 → path ≡ [] → new ≡ path ++ pos (entry_at entries d) ∷ pos d ∷ [] → IsTrail net x labels new d
IsTrail-first net x labels entries before path new d h b k z empty is =
    let entry = h.at d b k in
    let part = IsPart-more net x labels [] 0 (entry_at entries d) d (IsPart-nil net x labels) k b entry.room z (λ _. entry.first z) (λ j e. absurd (omega arith)) in
    let same : new ≡ [] ++ pos (entry_at entries d) ∷ pos d ∷ [] = is ∙ ap (λ v. v ++ pos (entry_at entries d) ∷ pos d ∷ []) empty in
    rw same (IsTrail-part net x labels ([] ++ pos (entry_at entries d) ∷ pos d ∷ []) d (rw z part) (rw z (pair_demand [] 0 (entry_at entries d) d refl)))

pub IsTrail-more : (net : Network) (x : ℕ → ℕ → ℤ) (labels entries before : List ℕ) (path new : List ℤ) (d : ℕ) → AreEntries net x labels entries before → d < demand_count net → entry_at entries d < node_count net → 0 < label_at labels d → IsTrail net x labels path (entry_at before d) → new ≡ path ++ pos (entry_at entries d) ∷ pos d ∷ [] → IsTrail net x labels new d
IsTrail-more net x labels entries before path new d h b k p trail is =
    let entry = h.at d b k in
    let level : label_at labels d ≡ label_at labels (entry_at before d) + 1 = entry.level p in
    let old : IsPart net x labels path (label_at labels d) = rw level (IsPart-trail net x labels path (entry_at before d) trail) in
    let carry : (j : ℕ) → j + 1 ≡ label_at labels d → pos 0 <ℤ x (entry_at entries d) (demand_at path j) = λ j e. (let same : label_at labels (entry_at before d) ≡ j = omega arith in let last : demand_at path j ≡ entry_at before d = ap (demand_at path) (sym same) ∙ trail.last in rw last (entry.carrying p)) in
    let part = IsPart-more net x labels path (label_at labels d) (entry_at entries d) d old k b entry.room refl (λ z. absurd (omega arith)) carry in
    rw is (IsTrail-part net x labels (path ++ pos (entry_at entries d) ∷ pos d ∷ []) d part (pair_demand path (label_at labels d) (entry_at entries d) d old.whole))

pub IsLevelled-trail : (net : Network) (x : ℕ → ℕ → ℤ) (labels : List ℕ) (path : List ℤ) (end : ℕ) → IsTrail net x labels path end → pos 0 <ℤ lack_at net x end → IsLevelled net x labels path
IsLevelled-trail net x labels path end h lack =
    let last : last_of path ≡ label_at labels end = omega (arith, h.whole) in
    record {
      whole = omega (arith, h.whole, last);
      numbers = h.numbers;
      nodes_in = λ j l. h.nodes_in j (omega arith);
      demands_in = λ j l. h.demands_in j (omega arith);
      rooms = λ j l. h.rooms j (omega arith);
      levels = λ j l. h.levels j (omega arith);
      carrying = λ j l. h.carrying j (omega arith);
      spare = h.spare;
      lacking = rw (last, h.last) lack;
    }

-- ---- a search of all nodes that ends with no path

pub AllFull-known : (net : Network) (x : ℕ → ℕ → ℤ) (labels entries : List ℕ) → AreKnown net labels entries (demand_count net + 1) → ((d : ℕ) → d < demand_count net → entry_at entries d < node_count net → lack_at net x d ≤ℤ pos 0) → AllFull net x labels
AllFull-known net x labels entries known none = record { full = λ d b l. none d b (known.known d b (omega arith) l) }

-- ---- nothing is known at first

pub AreEntries-none : (net : Network) (x : ℕ → ℕ → ℤ) (labels entries before : List ℕ) → length entries ≡ demand_count net → length before ≡ demand_count net → ((d : ℕ) → d < demand_count net → entry_at entries d ≡ node_count net) → AreEntries net x labels entries before
AreEntries-none net x labels entries before l m none = record { one_entry = l; one_before = m; at = λ d b k. absurd (omega (arith, none d b, k)) }

pub AreKnown-none : (net : Network) (labels entries : List ℕ) → AreKnown net labels entries 0
AreKnown-none net labels entries = record { known = λ d b l. absurd (omega arith) }

pub OnOk-map : {P Q : Type 0} {T E : Type 0} → (r : Result T E) → (P → Q) → OnOk r P → OnOk r Q
OnOk-map (Ok v) f p = f p
OnOk-map (Err e) f p = tt
