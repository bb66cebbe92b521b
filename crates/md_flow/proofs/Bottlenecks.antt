-- The least of what a path may take, place by place.
use Rattle.std.proofs.Common.{◌≡◌, ℕ, ◌+◌, ◌-◌, ◌<◌, ◌≤◌, ℤ, pos, ◌-ℤ◌, ◌≤ℤ◌, ◌<ℤ◌, ◌⊎◌, inl, inr, List, refl, ap, ◌∙◌, subst, arith}
use Rattle.std.proofs.lemmas.Bool.{cases_lt}
use Rattle.std.proofs.lemmas.Int.{ints}
use Rattle.md_flow.specs.Network.{Network, node_count, demand_count, cap_of, want_of, room_of}
use Rattle.md_flow.specs.Flows.{given_by, got_by}
use Rattle.md_flow.specs.Labels.{spare_at, lack_at}
use Rattle.md_flow.specs.Paths.{node_at, demand_at, last_of, IsEnough, FitsRooms, IsBottleneck, room_left, amount_before}

-- a limit, or the least of the first i numbers where this is less; all are positive
pub record IsLeast (f : ℕ → ℤ) (i limit least : ℕ) : Type 0 where
  pub some : 1 ≤ least
  pub most : least ≤ limit
  pub at_most : (j : ℕ) → j < i → pos least ≤ℤ f j
  pub reached : (least ≡ limit) ⊎ ((j : ℕ) × (j < i) × (pos least ≡ f j))

pub IsLeast-first : (f : ℕ → ℤ) (limit : ℕ) → 1 ≤ limit → IsLeast f 0 limit limit
IsLeast-first f limit some = record { some = some; most = omega arith; at_most = λ j b. absurd (omega arith); reached = inl refl }

pub IsLeast-more : (f : ℕ → ℤ) (i limit least value new : ℕ) → IsLeast f i limit least → pos value ≡ f i → pos 0 <ℤ f i → ((new ≡ least) × (least ≤ value)) ⊎ ((new ≡ value) × (value ≤ least)) → IsLeast f (i + 1) limit new
IsLeast-more f i limit least value new h is some (inl (e, m)) = rw e (record {
  some = h.some;
  most = h.most;
  at_most = λ j b. elim (cases_lt j i) [ inl l ↦ h.at_most j l | inr l ↦ (let same : i ≡ j = omega arith in subst (λ k. pos least ≤ℤ f k) same (let here : pos least ≤ℤ f i = omega (arith, ints, is, m) in here)) ];
  reached = elim h.reached [ inl r ↦ inl r | inr w ↦ inr (w.0, omega (arith, w.1), w.2) ];
})
IsLeast-more f i limit least value new h is some (inr (e, m)) =
    let old = h.most in
    record {
      some = omega (arith, ints, is, some, e);
      most = omega (arith, e, m, old);
      at_most = λ j b. elim (cases_lt j i) [ inl l ↦ omega (arith, ints, h.at_most j l, e, m) | inr l ↦ (let same : i ≡ j = omega arith in subst (λ k. pos new ≤ℤ f k) same (let here : pos new ≤ℤ f i = omega (arith, ints, is, e) in here)) ];
      reached = inr (i, omega arith, omega (arith, ints, is, e));
    }

-- what is left of a cap and of a room, and what a demand lacks, as the code has them
pub spare_read : (net : Network) (x : ℕ → ℕ → ℤ) (u first m cap sent : ℕ) → first ≡ u → m ≡ demand_count net → pos cap ≡ cap_of net first → pos sent ≡ given_by m x first → pos 0 <ℤ spare_at net x u → pos (cap - sent) ≡ spare_at net x u
spare_read net x u first m cap sent e f p q r =
    let cap_is : pos cap ≡ cap_of net u = p ∙ ap (cap_of net) e in
    let sent_is : pos sent ≡ given_by (demand_count net) x u = q ∙ ap (given_by m x) e ∙ ap (λ k. given_by k x u) f in
    omega (arith, ints, cap_is, sent_is, r)

pub lack_read : (net : Network) (x : ℕ → ℕ → ℤ) (d end n want got : ℕ) → end ≡ d → n ≡ node_count net → pos want ≡ want_of net end → pos got ≡ got_by n x end → pos 0 <ℤ lack_at net x d → pos (want - got) ≡ lack_at net x d
lack_read net x d end n want got e f p q r =
    let want_is : pos want ≡ want_of net d = p ∙ ap (want_of net) e in
    let got_is : pos got ≡ got_by (node_count net) x d = q ∙ ap (got_by n x) e ∙ ap (λ k. got_by k x d) f in
    omega (arith, ints, want_is, got_is, r)

pub left_read : (net : Network) (x : ℕ → ℕ → ℤ) (u d node demand room amount : ℕ) → node ≡ u → demand ≡ d → pos room ≡ room_of net node demand → pos amount ≡ x node demand → x u d <ℤ room_of net u d → (amount ≤ room) × (pos (room - amount) ≡ room_of net u d -ℤ x u d) × (pos 0 <ℤ (room_of net u d -ℤ x u d))
left_read net x u d node demand room amount e f p q l =
    let room_is : pos room ≡ room_of net u d = p ∙ ap (λ k. room_of net k demand) e ∙ ap (room_of net u) f in
    let amount_is : pos amount ≡ x u d = q ∙ ap (λ k. x k demand) e ∙ ap (x u) f in
    (omega (arith, ints, room_is, amount_is, l), omega (arith, ints, room_is, amount_is, l), omega (arith, ints, room_is, amount_is, l))

-- ---- the whole

lesser_most : (a b c : ℕ) → ((c ≡ a) × (a ≤ b)) ⊎ ((c ≡ b) × (b ≤ a)) → (c ≤ a) × (c ≤ b)
lesser_most a b c (inl (e, m)) = (omega (arith, e), omega (arith, e, m))
lesser_most a b c (inr (e, m)) = (omega (arith, e, m), omega (arith, e))

pub lesser_some : (a b c : ℕ) (y z : ℤ) → pos a ≡ y → pos b ≡ z → pos 0 <ℤ y → pos 0 <ℤ z → ((c ≡ a) × (a ≤ b)) ⊎ ((c ≡ b) × (b ≤ a)) → 1 ≤ c
lesser_some a b c y z p q l m (inl (e, _)) = omega (arith, ints, p, l, e)
lesser_some a b c y z p q l m (inr (e, _)) = omega (arith, ints, q, m, e)

pub IsBottleneck-least : (net : Network) (x : ℕ → ℕ → ℤ) (path : List ℤ) (spare lack limit room least : ℕ) → pos spare ≡ spare_at net x (node_at path 0) → pos lack ≡ lack_at net x (demand_at path (last_of path)) → ((limit ≡ spare) × (spare ≤ lack)) ⊎ ((limit ≡ lack) × (lack ≤ spare))
    → room ≤ limit → FitsRooms net x path (pos room) → (room ≡ limit) ⊎ ((j : ℕ) × (j < last_of path + 1) × (pos room ≡ room_left net x path j))
    → 1 ≤ least → least ≤ room → IsEnough path (pos least) x → (least ≡ room) ⊎ ((j : ℕ) × (j < last_of path) × (pos least ≡ amount_before x path j)) → IsBottleneck net x path (pos least)
IsBottleneck-least net x path spare lack limit room least s l lesser r fits by_room some m enough by_amount =
    let both = lesser_most spare lack limit lesser in
    record {
      positive = omega (arith, ints, some);
      spare = omega (arith, ints, s, both.0, r, m);
      lack = omega (arith, ints, l, both.1, r, m);
      fits = record { rooms = λ j b. (let left = fits.rooms j b in omega (arith, ints, left, m)) };
      enough = enough;
      reached = by by_amount by_room lesser;
    }
  where
    by : (least ≡ room) ⊎ ((j : ℕ) × (j < last_of path) × (pos least ≡ amount_before x path j)) → (room ≡ limit) ⊎ ((j : ℕ) × (j < last_of path + 1) × (pos room ≡ room_left net x path j)) → ((limit ≡ spare) × (spare ≤ lack)) ⊎ ((limit ≡ lack) × (lack ≤ spare))
        → (pos least ≡ spare_at net x (node_at path 0)) ⊎ (pos least ≡ lack_at net x (demand_at path (last_of path))) ⊎ ((j : ℕ) × (j ≤ last_of path) × (pos least ≡ room_left net x path j)) ⊎ ((j : ℕ) × (j < last_of path) × (pos least ≡ amount_before x path j))
    by (inr w) r l = inr (inr (inr w))
    by (inl e) (inr (j, b, f)) l = inr (inr (inl (j, omega arith, ap pos e ∙ f)))
    by (inl e) (inl f) (inl (g, _)) = inl (ap pos (e ∙ f ∙ g) ∙ s)
    by (inl e) (inl f) (inr (g, _)) = inr (inl (ap pos (e ∙ f ∙ g) ∙ l))
