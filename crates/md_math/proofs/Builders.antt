-- Lists that grow at their end, place by place.
use Rattle.std.proofs.Common.{◌≡◌, ℕ, zero, suc, ◌+◌, ◌*◌, ◌<◌, List, [], ◌∷◌, ◌++◌, length, get_or, map, All, refl, sym, ap, ap₂, subst, ◌∙◌, arith, inl, inr, add-one, append_assoc, append-nil, length-append, ℤ, pos, ◌-◌}
use Rattle.std.proofs.lemmas.Bool.{cases_lt}
use Rattle.std.proofs.lemmas.List.{get_or_append_left, get_or-append-add, get_or_push, length_push, map-append, ext_get_or, get_or-append_right}
use Rattle.std.proofs.lemmas.List.Elements.{All-append, All-push, All-nil}
use Rattle.md_math.specs.Lists.{list_to, up_to, number_at}

-- ---- one element for each place

pub list_to-more : {X : Type 0} → (n : ℕ) (f : ℕ → X) → list_to (n + 1) f ≡ list_to n f ++ f n ∷ []
list_to-more n f = rw add-one refl

pub length-list_to : {X : Type 0} → (n : ℕ) (f : ℕ → X) → length (list_to n f) ≡ n
length-list_to zero f = refl
length-list_to (suc n) f = omega (arith, length_push (list_to n f) (f n), length-list_to n f)

pub list_to-same : {X : Type 0} → (n : ℕ) (f g : ℕ → X) → ((k : ℕ) → k < n → f k ≡ g k) → list_to n f ≡ list_to n g
list_to-same zero f g h = refl
list_to-same (suc n) f g h = ap₂ (λ xs x. xs ++ x ∷ []) (list_to-same n f g (λ k b. h k (omega arith))) (h n (omega arith))

pub get_or-list_to : {X : Type 0} → (n : ℕ) (f : ℕ → X) (k : ℕ) (d : X) → k < n → get_or (list_to n f) k d ≡ f k
get_or-list_to zero f k d b = absurd (omega arith)
get_or-list_to (suc n) f k d b =
    elim (cases_lt k n) [
      | inl l ↦
          let inside : k < length (list_to n f) = omega (arith, length-list_to n f) in
          get_or_append_left (list_to n f) (f n ∷ []) d k inside ∙ get_or-list_to n f k d l
      | inr l ↦
          let here : length (list_to n f) ≡ k = omega (arith, length-list_to n f) in
          let same : n ≡ k = omega arith in
          get_or_push (list_to n f) (f n) d k here ∙ ap f same
    ]

-- a list is that of its elements
pub list_to-get_or : {X : Type 0} → (xs : List X) (d : X) → list_to (length xs) (λ k. get_or xs k d) ≡ xs
list_to-get_or xs d =
    ext_get_or d (list_to (length xs) (λ k. get_or xs k d)) xs (length-list_to (length xs) (λ k. get_or xs k d))
    (λ k b. get_or-list_to (length xs) (λ j. get_or xs j d) k d (omega (arith, length-list_to (length xs) (λ j. get_or xs j d), b)))

-- a list with f at each place below its length n
pub same_list_to : {X : Type 0} → (xs : List X) (n : ℕ) (f : ℕ → X) (d : X) → length xs ≡ n → ((k : ℕ) → k < n → get_or xs k d ≡ f k) → xs ≡ list_to n f
same_list_to xs n f d e h =
    ext_get_or d xs (list_to n f) (e ∙ sym (length-list_to n f))
    (λ k b. h k (omega arith) ∙ sym (get_or-list_to n f k d (omega arith)))

pub map-list_to : {X Y : Type 0} → (g : X → Y) (n : ℕ) (f : ℕ → X) → map g (list_to n f) ≡ list_to n (λ k. g (f k))
map-list_to g zero f = refl
map-list_to g (suc n) f = map-append g (list_to n f) (f n ∷ []) ∙ ap (λ xs. xs ++ g (f n) ∷ []) (map-list_to g n f)

pub All-list_to : {X : Type 0} → (P : X → Type 0) (n : ℕ) (f : ℕ → X) → ((k : ℕ) → k < n → P (f k)) → All P (list_to n f)
All-list_to P zero f h = All-nil P
All-list_to P (suc n) f h = All-push P (list_to n f) (f n) (All-list_to P n f (λ k b. h k (omega arith))) (h n (omega arith))

-- ---- a list for each place, one after another

pub up_to-more : {X : Type 0} → (n : ℕ) (f : ℕ → List X) → up_to (n + 1) f ≡ up_to n f ++ f n
up_to-more n f = rw add-one refl

pub up_to-same : {X : Type 0} → (n : ℕ) (f g : ℕ → List X) → ((k : ℕ) → k < n → f k ≡ g k) → up_to n f ≡ up_to n g
up_to-same zero f g h = refl
up_to-same (suc n) f g h = ap₂ (λ xs ys. xs ++ ys) (up_to-same n f g (λ k b. h k (omega arith))) (h n (omega arith))

pub up_to-single : {X : Type 0} → (n : ℕ) (f : ℕ → X) → up_to n (λ k. f k ∷ []) ≡ list_to n f
up_to-single zero f = refl
up_to-single (suc n) f = ap (λ xs. xs ++ f n ∷ []) (up_to-single n f)

-- lists of one length
pub length-up_to : {X : Type 0} → (n m : ℕ) (f : ℕ → List X) → ((k : ℕ) → k < n → length (f k) ≡ m) → length (up_to n f) ≡ n * m
length-up_to zero m f h = omega arith
length-up_to (suc n) m f h =
    omega (arith, length-append (up_to n f) (f n), length-up_to n m f (λ k b. h k (omega arith)), h n (omega arith))

pub map-up_to : {X Y : Type 0} → (g : X → Y) (n : ℕ) (f : ℕ → List X) → map g (up_to n f) ≡ up_to n (λ k. map g (f k))
map-up_to g zero f = refl
map-up_to g (suc n) f = map-append g (up_to n f) (f n) ∙ ap (λ xs. xs ++ map g (f n)) (map-up_to g n f)

pub All-up_to : {X : Type 0} → (P : X → Type 0) (n : ℕ) (f : ℕ → List X) → ((k : ℕ) → k < n → All P (f k)) → All P (up_to n f)
All-up_to P zero f h = All-nil P
All-up_to P (suc n) f h = All-append P (up_to n f) (f n) (All-up_to P n f (λ k b. h k (omega arith))) (h n (omega arith))

-- the lists before place k, the list at k, and the rest
pub up_to-split : {X : Type 0} → (n k : ℕ) (f : ℕ → List X) → k < n → (rest : List X) × (up_to n f ≡ (up_to k f ++ f k) ++ rest)
up_to-split zero k f b = absurd (omega arith)
up_to-split (suc n) k f b =
    elim (cases_lt k n) [
      | inl l ↦
          let (rest, e) = up_to-split n k f l in
          (rest ++ f n, ap (λ xs. xs ++ f n) e ∙ append_assoc (up_to k f ++ f k) rest (f n))
      | inr l ↦
          let same : n ≡ k = omega arith in
          ([], ap (λ i. up_to i f ++ f i) same ∙ sym (append-nil (up_to k f ++ f k)))
    ]

-- what holds of each element of two lists joined holds of each element of either
pub All-left : {X : Type 0} → (P : X → Type 0) (xs ys : List X) → All P (xs ++ ys) → All P xs
All-left P xs ys h k d b = subst P (get_or_append_left xs ys d k b) (h k d (omega (arith, length-append xs ys)))

pub All-right : {X : Type 0} → (P : X → Type 0) (xs ys : List X) → All P (xs ++ ys) → All P ys
All-right P xs ys h k d b = subst P (get_or-append-add xs ys k d) (h (length xs + k) d (omega (arith, length-append xs ys)))

-- what holds of each element holds of each element of each of the lists
pub All-up_to_at : {X : Type 0} → (P : X → Type 0) (n k : ℕ) (f : ℕ → List X) → k < n → All P (up_to n f) → All P (f k)
All-up_to_at {X} P n k f b h =
    let (rest, e) = up_to-split n k f b in
    All-right P (up_to k f) (f k) (All-left P (up_to k f ++ f k) rest (let Q : List X → Type 0 = All P in subst Q e h))

-- the place j of list i, where the lists have one length
pub get_or-up_to : {X : Type 0} → (n m i j : ℕ) (f : ℕ → List X) (d : X) → ((k : ℕ) → k < n → length (f k) ≡ m) → i < n → j < m → get_or (up_to n f) (i * m + j) d ≡ get_or (f i) j d
get_or-up_to n m i j f d h b c =
    let (rest, e) = up_to-split n i f b in
    let before : length (up_to i f) ≡ i * m = length-up_to i m f (λ k l. h k (omega arith)) in
    let inside : i * m + j < length (up_to i f ++ f i) = omega (arith, length-append (up_to i f) (f i), h i b) in
    ap (λ xs. get_or xs (i * m + j) d) e
    ∙ get_or_append_left (up_to i f ++ f i) rest d (i * m + j) inside
    ∙ ap (λ p. get_or (up_to i f ++ f i) (p + j) d) (sym before)
    ∙ get_or-append-add (up_to i f) (f i) j d

-- ---- lists that grow

pub push-list : {X : Type 0} → (old now new : List X) (k : ℕ) (f : ℕ → X) (v : X) → now ≡ old ++ list_to k f → new ≡ now ++ v ∷ [] → v ≡ f k → new ≡ old ++ list_to (k + 1) f
push-list old now new k f v before pushed value =
    pushed ∙ ap (λ xs. xs ++ v ∷ []) before ∙ append_assoc old (list_to k f) (v ∷ []) ∙ ap (λ x. old ++ (list_to k f ++ x ∷ [])) value ∙ ap (λ xs. old ++ xs) (sym (list_to-more k f))

-- the number behind a list of this length
pub number_at-behind : (xs ys : List ℤ) (n k : ℕ) → length xs ≡ n → number_at (xs ++ ys) (n + k) ≡ number_at ys k
number_at-behind xs ys n k e = get_or-append_right xs ys n (n + k) (pos 0) e (omega arith) ∙ ap (number_at ys) (let f : n + k - n ≡ k = omega arith in f)
