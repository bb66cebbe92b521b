-- A setting that was printed is read back, and its document nests little.
use Rattle.std.proofs.Common.{◌≡◌, ℕ, suc, ◌<◌, ◌≤◌, ℤ, pos, Bool, true, List, [], ◌∷◌, map, length, zero, if◌then◌else◌, Option, Some, None, Ok, Err, is_some, slice_index_or, unsigned_abs, codes, false, ◌||◌, sym, Ordering, Less, Equal, Greater, nat_cmp, refl, ap, ◌∙◌, arith}
use Rattle.std.specs.List.{list_all, list_any}
use Rattle.std.specs.Cmp.Lexicographic.{slice_cmp}
use Rattle.std.specs.Ordering.{match_ordering}
use Rattle.toml.specs.Data.{Data, string, integer, boolean, table, Members, no_members, member, depth, items_depth, members_depth}
use Rattle.md_setting.specs.declared.file.SettingFile.{SettingFile}
use Rattle.md_setting.specs.declared.file.SettingFile.TheVariants as file
use Rattle.md_setting.specs.declared.kinds.Truth.{Truth}
use Rattle.md_setting.specs.declared.kinds.Truth.TheVariants.{Dominant, Bayes}
use Rattle.md_setting.specs.declared.kinds.Rational.{Rational}
use Rattle.md_setting.specs.declared.kinds.Rational.TheVariants as rational
use Rattle.md_setting.specs.Setting.{Agent, GeneralSetting}
use Rattle.md_setting.specs.Meaning.{nobody}
use Rattle.md_setting.specs.Auction.{SymmetricAuction, WrittenAuction, as_written, auction_of}
use Rattle.md_setting.specs.AuctionRefusals.{auction_refusal_of}
use Rattle.md_setting.specs.Grouped.{GroupedAuction, WrittenGroup, WrittenGroupedAuction, Group, group_as_written, said_group, grouped_of, grouped_as_written}
use Rattle.md_setting.specs.GroupedRefusals.{grouped_refusal_of}
use Rattle.md_setting.specs.Refusals.{refusal_of}
use Rattle.md_setting.specs.declared.refusal.BuildRefusal.{BuildRefusal}
use Rattle.md_toml.specs.declared.refusal.SettingRefusal.TheVariants.{Build}
use Rattle.toml.specs.Parse.{parse_document}
use Rattle.std.specs.Str.{is_utf8}
use Rattle.md_toml.specs.Keys.{member_name}
use Rattle.md_toml.specs.declared.document.Kind.TheVariants as kind
use Rattle.md_toml.specs.declared.document.Version.{Version}
use Rattle.md_toml.specs.declared.document.Version.TheVariants.{One, Two}
use Rattle.md_toml.specs.declared.key.Key.{Key}
use Rattle.md_toml.specs.declared.key.Key.TheVariants as key
use Rattle.md_toml.specs.AuctionText.{auction_in}
use Rattle.md_toml.specs.GroupedText.{group_of, grouped_in}
use Rattle.md_toml.specs.Document.{document_of, kind_of}
use Rattle.md_toml.specs.File.{built, built_auction, built_grouped, file_of, setting_of}
use Rattle.md_toml.specs.General.{truth_in, rational_in, agent_of, general_of}
use Rattle.md_toml.specs.Known.{has_agent_keys, has_only, group_keys}
use Rattle.md_toml.specs.Reading.{Reading, ◌>>=◌}
use Rattle.md_toml.specs.Values.{each_item, read_each, integer_in, text_in, table_in, list_in}
use Rattle.md_toml.specs.Writing.{put, agents_data, put_member, items_from, numbers_data, texts_data, rows_data, truth_word, rational_word, header_with, with_demands, objective_table, with_weights, with_utilities, version_of, agent_table, with_prior, general_table_in, general_table, auction_table, group_table, groups_data, grouped_table, file_table, IsAccepted, version_number}

-- ---- lists

list_back : {T : Type 0} (read : Data → Reading T) (data_of : T → Data) (xs : List T) → ((x : T) → read (data_of x) ≡ Ok x)
    → each_item read (items_from data_of xs) ≡ Ok xs
list_back read data_of [] h = refl
list_back read data_of (x ∷ xs) h = rw (h x, list_back read data_of xs h) refl

numbers_back : (k : Key) (numbers : List ℤ) → each_item (integer_in k) (items_from integer numbers) ≡ Ok numbers
numbers_back k numbers = list_back (integer_in k) integer numbers (λ x. refl)

texts_back : (k : Key) (texts : List (List ℕ)) → each_item (text_in k) (items_from string texts) ≡ Ok texts
texts_back k texts = list_back (text_in k) string texts (λ x. refl)

rows_back : (k : Key) (rows : List (List ℤ)) → each_item (list_in integer_in k) (items_from numbers_data rows) ≡ Ok rows
rows_back k rows = list_back (list_in integer_in k) numbers_data rows (λ row. numbers_back k row)

tables_back : (k : Key) (prior : Option (List ℤ)) (agents : List Agent)
    → each_item (table_in k) (items_from (λ agent. table (agent_table prior agent)) agents) ≡ Ok (map (agent_table prior) agents)
tables_back k prior [] = refl
tables_back k prior (agent ∷ agents) = rw (tables_back k prior agents) refl

-- ---- words

truth_back : (k : Key) (t : Truth) → truth_in k (string (truth_word t)) ≡ Ok t
truth_back k Dominant = refl
truth_back k Bayes = refl

rational_back : (k : Key) (r : Rational) → rational_in k (string (rational_word r)) ≡ Ok r
rational_back k rational.None = refl
rational_back k rational.ExPost = refl
rational_back k rational.Interim = refl

-- ---- agents

nothing_left : (weights : List ℤ) → length weights ≡ 0 → [] ≡ weights
nothing_left [] h = refl
nothing_left (x ∷ weights) h = absurd (omega (arith, h))

no_row : (rows : List (List ℤ)) → length rows ≡ 0 → [] ≡ rows
no_row [] h = refl
no_row (row ∷ rows) h = absurd (omega (arith, h))

-- what the first version can say of an agent
abbrev IsSaidIn : Version → Option (List (List ℤ)) → Type 0
IsSaidIn One at = at ≡ None
IsSaidIn Two at = Unit {0}

-- what an agent has beside what
record IsWritten (version : Version) (prior : Option (List ℤ)) (weights : List ℤ) (utility : List (List ℤ)) (at : Option (List (List ℤ))) : Type 0 where
  beside_prior : (p : List ℤ) → prior ≡ Some p → length weights ≡ 0
  beside_at : (rows : List (List ℤ)) → at ≡ Some rows → length utility ≡ 0
  said : IsSaidIn version at

agent_back : (version : Version) (prior : Option (List ℤ)) (name : List ℕ) (types : List (List ℕ)) (weights outside : List ℤ) (utility : List (List ℤ)) (at : Option (List (List ℤ)))
    → IsWritten version prior weights utility at
    → agent_of version prior (agent_table prior (record { name = name; types = types; weights = weights; outside = outside; utility = utility; at = at }))
    ≡ Ok (record { name = name; types = types; weights = weights; outside = outside; utility = utility; at = at })
agent_back One prior name types weights outside utility (Some at) h = absurd (let e : ◌≡◌ {A = Option (List (List ℤ))} (Some at) None = h.said in cc)
agent_back One None name types weights outside utility None h =
    rw (texts_back key.AgentTypes types, numbers_back key.AgentWeights weights, numbers_back key.AgentOutside outside, rows_back key.AgentUtility utility) refl
agent_back One (Some p) name types weights outside utility None h =
    rw (texts_back key.AgentTypes types, numbers_back key.AgentOutside outside, rows_back key.AgentUtility utility)
    (ap (λ ws. Ok (record { name = name; types = types; weights = ws; outside = outside; utility = utility; at = None })) (nothing_left weights (h.beside_prior p refl)))
agent_back Two None name types weights outside utility None h =
    rw (texts_back key.AgentTypes types, numbers_back key.AgentWeights weights, numbers_back key.AgentOutside outside, rows_back key.AgentUtility utility) refl
agent_back Two (Some p) name types weights outside utility None h =
    rw (texts_back key.AgentTypes types, numbers_back key.AgentOutside outside, rows_back key.AgentUtility utility)
    (ap (λ ws. Ok (record { name = name; types = types; weights = ws; outside = outside; utility = utility; at = None })) (nothing_left weights (h.beside_prior p refl)))
agent_back Two None name types weights outside utility (Some at) h =
    rw (texts_back key.AgentTypes types, numbers_back key.AgentWeights weights, numbers_back key.AgentOutside outside, rows_back key.AgentUtilityAt at)
    (ap (λ rows. Ok (record { name = name; types = types; weights = weights; outside = outside; utility = rows; at = Some at })) (no_row utility (h.beside_at at refl)))
agent_back Two (Some p) name types weights outside utility (Some at) h =
    rw (texts_back key.AgentTypes types, numbers_back key.AgentOutside outside, rows_back key.AgentUtilityAt at)
    (ap (λ rows. Ok (record { name = name; types = types; weights = []; outside = outside; utility = rows; at = Some at })) (no_row utility (h.beside_at at refl))
    ∙ ap (λ ws. Ok (record { name = name; types = types; weights = ws; outside = outside; utility = utility; at = Some at })) (nothing_left weights (h.beside_prior p refl)))

-- each agent is written as it should be
record AreWritten (version : Version) (prior : Option (List ℤ)) (agents : List Agent) : Type 0 where
  at : (i : ℕ) → i < length agents → IsWritten version prior (slice_index_or agents i nobody).weights (slice_index_or agents i nobody).utility (slice_index_or agents i nobody).at

others_written : (version : Version) (prior : Option (List ℤ)) (agent : Agent) (agents : List Agent) → AreWritten version prior (agent ∷ agents) → AreWritten version prior agents
others_written version prior agent agents h = record { at = λ i l. h.at (suc i) (omega arith) }

agents_back : (version : Version) (prior : Option (List ℤ)) (agents : List Agent) → AreWritten version prior agents → read_each (agent_of version prior) (map (agent_table prior) agents) ≡ Ok agents
agents_back version prior [] h = refl
agents_back version prior (agent ∷ agents) h =
    rw (
      agent_back version prior agent.name agent.types agent.weights agent.outside agent.utility agent.at (h.at 0 (omega arith)),
      agents_back version prior agents (others_written version prior agent agents h),
    )
    refl

agent_known : (version : Version) (prior : Option (List ℤ)) (name : List ℕ) (types : List (List ℕ)) (weights outside : List ℤ) (utility : List (List ℤ)) (at : Option (List (List ℤ)))
    → IsSaidIn version at → has_agent_keys version (is_some prior) (agent_table prior (record { name = name; types = types; weights = weights; outside = outside; utility = utility; at = at })) ≡ true
agent_known One prior name types weights outside utility (Some at) h = absurd (let e : ◌≡◌ {A = Option (List (List ℤ))} (Some at) None = h in cc)
agent_known One None name types weights outside utility None h = refl
agent_known One (Some p) name types weights outside utility None h = refl
agent_known Two None name types weights outside utility None h = refl
agent_known Two (Some p) name types weights outside utility None h = refl
agent_known Two None name types weights outside utility (Some at) h = refl
agent_known Two (Some p) name types weights outside utility (Some at) h = refl

known_back : (version : Version) (prior : Option (List ℤ)) (agents : List Agent) → AreWritten version prior agents → list_all (has_agent_keys version (is_some prior)) (map (agent_table prior) agents) ≡ true
known_back version prior [] h = refl
known_back version prior (agent ∷ agents) h =
    rw (
      agent_known version prior agent.name agent.types agent.weights agent.outside agent.utility agent.at (h.at 0 (omega arith)).said,
      known_back version prior agents (others_written version prior agent agents h),
    )
    refl

-- the version of a setting says each of its agents
none_depends : (agents : List Agent) (i : ℕ) → i < length agents → list_any (λ agent. is_some agent.at) agents ≡ false → (slice_index_or agents i nobody).at ≡ None
none_depends [] i h e = absurd (omega arith)
none_depends (agent ∷ agents) zero h e = here agent.at e
  where
    here : (at : Option (List (List ℤ))) → (is_some at || list_any (λ (a : Agent). is_some a.at) agents) ≡ false → at ≡ None
    here None e = refl
    here (Some rows) e = absurd (cc e)
none_depends (agent ∷ agents) (suc i) h e = none_depends agents i (omega arith) (rest (is_some agent.at) e)
  where
    rest : (b : Bool) → (b || list_any (λ (a : Agent). is_some a.at) agents) ≡ false → list_any (λ (a : Agent). is_some a.at) agents ≡ false
    rest true e = absurd (cc e)
    rest false e = e

said_in : (agents : List Agent) (i : ℕ) → i < length agents → IsSaidIn (version_of agents) (slice_index_or agents i nobody).at
said_in agents i h = by (list_any (λ agent. is_some agent.at) agents) (none_depends agents i h)
  where
    by : (b : Bool) → (b ≡ false → (slice_index_or agents i nobody).at ≡ None) → IsSaidIn (if b then Two else One) (slice_index_or agents i nobody).at
    by true f = tt
    by false f = f refl

-- ---- whole files

general_back : (version : Version) (prior : Option (List ℤ)) (s : GeneralSetting) → s.prior ≡ prior → AreWritten version prior s.agents → general_of version (general_table_in version s) ≡ Ok s
general_back version None s e h =
    rw (
      e,
      truth_back key.Truth s.truth,
      rational_back key.Rational s.rational,
      texts_back key.Outcomes s.outcomes,
      numbers_back key.ObjectiveValue s.values,
      tables_back key.Agent None s.agents,
      agents_back version None s.agents h,
      known_back version None s.agents h,
    )
    refl
general_back version (Some p) s e h =
    rw (
      e,
      truth_back key.Truth s.truth,
      rational_back key.Rational s.rational,
      texts_back key.Outcomes s.outcomes,
      numbers_back key.ObjectiveValue s.values,
      numbers_back key.Prior p,
      tables_back key.Agent (Some p) s.agents,
      agents_back version (Some p) s.agents h,
      known_back version (Some p) s.agents h,
    )
    refl

general_kind : (version : Version) (prior : Option (List ℤ)) (s : GeneralSetting) → s.prior ≡ prior → kind_of (general_table_in version s) ≡ Ok (kind.General version)
general_kind One None s e = rw e refl
general_kind One (Some p) s e = rw e refl
general_kind Two None s e = rw e refl
general_kind Two (Some p) s e = rw e refl

auction_back : (a : SymmetricAuction) → auction_in (auction_table a) ≡ Ok (as_written a)
auction_back a = rw (numbers_back key.Values a.values, numbers_back key.Weights (map pos a.weights)) refl

weights_back : (weights : List ℕ) → map unsigned_abs (map pos weights) ≡ weights
weights_back [] = refl
weights_back (w ∷ weights) = rw (weights_back weights) refl

on_ok : {A B : Type 0} (m : Reading A) (x : A) (next : A → Reading B) → m ≡ Ok x → (m >>= next) ≡ next x
on_ok m x next e = rw e refl

built_back : (s : GeneralSetting) → refusal_of s ≡ None → built s ≡ Ok s
built_back s h = chosen (refusal_of s) h
  where
    chosen : (refusal : Option BuildRefusal) → refusal ≡ None → ◌≡◌ {A = Reading GeneralSetting} (elim refusal [ None ↦ Ok s | Some r ↦ Err (Build r) ]) (Ok s)
    chosen refusal e = rw e refl

built_auction_back : (w : WrittenAuction) → auction_refusal_of w ≡ None → built_auction w ≡ Ok (auction_of w)
built_auction_back w h = chosen (auction_refusal_of w) h
  where
    chosen : (refusal : Option BuildRefusal) → refusal ≡ None → ◌≡◌ {A = Reading SymmetricAuction} (elim refusal [ None ↦ Ok (auction_of w) | Some r ↦ Err (Build r) ]) (Ok (auction_of w))
    chosen refusal e = rw e refl

-- an auction with groups of bidders
group_back : (group : WrittenGroup) → group_of (group_table group) ≡ Ok group
group_back group = rw (numbers_back key.BidderValues group.values, numbers_back key.BidderWeights group.weights) refl

groups_back : (groups : List WrittenGroup) → read_each group_of (map group_table groups) ≡ Ok groups
groups_back [] = refl
groups_back (group ∷ groups) = rw (group_back group, groups_back groups) refl

group_tables_back : (k : Key) (groups : List WrittenGroup) → each_item (table_in k) (items_from (λ group. table (group_table group)) groups) ≡ Ok (map group_table groups)
group_tables_back k [] = refl
group_tables_back k (group ∷ groups) = rw (group_tables_back k groups) refl

groups_known : (groups : List WrittenGroup) → list_all (has_only group_keys) (map group_table groups) ≡ true
groups_known [] = refl
groups_known (group ∷ groups) = rw (groups_known groups) refl

grouped_back : (w : WrittenGroupedAuction) → grouped_in (grouped_table w) ≡ Ok w
grouped_back w =
    rw (numbers_back key.Slots w.slots, group_tables_back key.Bidder w.groups, groups_back w.groups, groups_known w.groups) refl

built_grouped_back : (w : WrittenGroupedAuction) → grouped_refusal_of w ≡ None → built_grouped w ≡ Ok (grouped_of w)
built_grouped_back w h = chosen (grouped_refusal_of w) h
  where
    chosen : (refusal : Option BuildRefusal) → refusal ≡ None → ◌≡◌ {A = Reading GroupedAuction} (elim refusal [ None ↦ Ok (grouped_of w) | Some r ↦ Err (Build r) ]) (Ok (grouped_of w))
    chosen refusal e = rw e refl

said_back : (groups : List Group) → map said_group (map group_as_written groups) ≡ groups
said_back [] = refl
said_back (group ∷ groups) = rw (weights_back group.weights, said_back groups) refl

grouped_said : (a : GroupedAuction) → grouped_of (grouped_as_written a) ≡ a
grouped_said a = rw (weights_back a.slots, said_back a.groups) refl

-- what is printed of a file says that file
file_back : (f : SettingFile) → IsAccepted f → (kind_of (file_table f) >>= λ kind. file_of kind (file_table f)) ≡ Ok f
file_back (file.General s) h =
    let written : AreWritten (version_of s.agents) s.prior s.agents = record {
      at = λ i l. record {
        beside_prior = λ p e. h.1.listed.beside_prior p e i l;
        beside_at = λ rows e. h.1.listed.beside_at rows i l e;
        said = said_in s.agents i l;
      };
    } in
    on_ok (kind_of (general_table s)) (kind.General (version_of s.agents)) (λ kind. file_of kind (general_table s)) (general_kind (version_of s.agents) s.prior s refl)
    ∙ (on_ok (general_of (version_of s.agents) (general_table s)) s (λ said. built said >>= λ setting. Ok (file.General setting))
    (general_back (version_of s.agents) s.prior s refl written)
    ∙ on_ok (built s) s (λ setting. Ok (file.General setting)) (built_back s h.0))
file_back (file.Auction a) h =
    on_ok (auction_in (auction_table a)) (as_written a) (λ written. built_auction written >>= λ auction. Ok (file.Auction auction)) (auction_back a)
    ∙ (on_ok (built_auction (as_written a)) (auction_of (as_written a)) (λ auction. Ok (file.Auction auction)) (built_auction_back (as_written a) h)
    ∙ ap (λ weights. Ok (file.Auction (record { bidders = a.bidders; values = a.values; weights = weights; revenue = a.revenue; welfare = a.welfare; keep = a.keep })))
    (weights_back a.weights))
file_back (file.Bidders a) h =
    let w = grouped_as_written a in
    on_ok (grouped_in (grouped_table w)) w (λ written. built_grouped written >>= λ auction. Ok (file.Bidders auction)) (grouped_back w)
    ∙ (on_ok (built_grouped w) (grouped_of w) (λ auction. Ok (file.Bidders auction)) (built_grouped_back w h)
    ∙ ap (λ auction. Ok (file.Bidders auction)) (grouped_said a))

-- ---- depth

put-depth : (n : ℕ) (name : List ℕ) (d : Data) (ms : Members) → depth d ≤ n → members_depth ms ≤ n → members_depth (put_member name d ms) ≤ n
put-depth n name d no_members h k = omega (arith, h)
put-depth n name d (member other held rest) h k = at (slice_cmp nat_cmp name other) (put-depth n name d rest h (omega (arith, k)))
  where
    at : (o : Ordering) → members_depth (put_member name d rest) ≤ n
        → members_depth (match_ordering o (member name d (member other held rest)) (member other d rest) (member other held (put_member name d rest))) ≤ n
    at Less r = omega (arith, h, k)
    at Equal r = omega (arith, h, k)
    at Greater r = omega (arith, h, k, r)

items-depth : {T : Type 0} (n : ℕ) (data_of : T → Data) (xs : List T) → ((x : T) → depth (data_of x) ≤ n) → items_depth (items_from data_of xs) ≤ n
items-depth n data_of [] h = omega arith
items-depth n data_of (x ∷ xs) h = omega (arith, h x, items-depth n data_of xs h)

numbers-depth : (numbers : List ℤ) → depth (numbers_data numbers) ≤ 1
numbers-depth numbers = omega (arith, items-depth 0 integer numbers (λ x. omega arith))

texts-depth : (texts : List (List ℕ)) → depth (texts_data texts) ≤ 1
texts-depth texts = omega (arith, items-depth 0 string texts (λ x. omega arith))

rows-depth : (rows : List (List ℤ)) → depth (rows_data rows) ≤ 2
rows-depth rows = omega (arith, items-depth 1 numbers_data rows numbers-depth)

-- ---- the depth of each table

put_depth : (n : ℕ) (k : Key) (v : Data) (ms : Members) → depth v ≤ n → members_depth ms ≤ n → members_depth (put k v ms) ≤ n
put_depth n k v ms = put-depth n (member_name k) v ms

weights-depth : (prior : Option (List ℤ)) (weights : List ℤ) (ms : Members) → members_depth ms ≤ 2 → members_depth (with_weights prior weights ms) ≤ 2
weights-depth None weights ms h = put_depth 2 key.AgentWeights (numbers_data weights) ms (omega (arith, numbers-depth weights)) h
weights-depth (Some p) weights ms h = h

utilities-depth : (at : Option (List (List ℤ))) (utility : List (List ℤ)) (ms : Members) → members_depth ms ≤ 2 → members_depth (with_utilities at utility ms) ≤ 2
utilities-depth None utility ms h = put_depth 2 key.AgentUtility (rows_data utility) ms (rows-depth utility) h
utilities-depth (Some at) utility ms h = put_depth 2 key.AgentUtilityAt (rows_data at) ms (rows-depth at) h

agent-depth : (prior : Option (List ℤ)) (a : Agent) → members_depth (agent_table prior a) ≤ 2
agent-depth prior a =
    let m1 = put key.AgentName (string a.name) no_members in
    let m2 = put key.AgentTypes (texts_data a.types) m1 in
    let m3 = with_weights prior a.weights m2 in
    let m4 = put key.AgentOutside (numbers_data a.outside) m3 in
    let h1 : members_depth m1 ≤ 2 = put_depth 2 key.AgentName (string a.name) no_members (omega arith) (omega arith) in
    let h2 : members_depth m2 ≤ 2 = put_depth 2 key.AgentTypes (texts_data a.types) m1 (omega (arith, texts-depth a.types)) h1 in
    let h3 : members_depth m3 ≤ 2 = weights-depth prior a.weights m2 h2 in
    let h4 : members_depth m4 ≤ 2 = put_depth 2 key.AgentOutside (numbers_data a.outside) m3 (omega (arith, numbers-depth a.outside)) h3 in
    utilities-depth a.at a.utility m4 h4

agents-depth : (prior : Option (List ℤ)) (agents : List Agent) → depth (agents_data prior agents) ≤ 4
agents-depth prior agents =
    let h : items_depth (items_from (λ agent. table (agent_table prior agent)) agents) ≤ 3 =
    items-depth 3 (λ agent. table (agent_table prior agent)) agents (λ agent. omega (arith, agent-depth prior agent)) in
    omega (arith, h)

objective-depth : (welfare revenue : ℤ) (values : List ℤ) → members_depth (objective_table welfare revenue values) ≤ 1
objective-depth welfare revenue values =
    let m1 = put key.ObjectiveWelfare (integer welfare) no_members in
    let m2 = put key.ObjectiveRevenue (integer revenue) m1 in
    let h1 : members_depth m1 ≤ 1 = put_depth 1 key.ObjectiveWelfare (integer welfare) no_members (omega arith) (omega arith) in
    let h2 : members_depth m2 ≤ 1 = put_depth 1 key.ObjectiveRevenue (integer revenue) m1 (omega arith) h1 in
    put_depth 1 key.ObjectiveValue (numbers_data values) m2 (numbers-depth values) h2

prior-depth : (prior : Option (List ℤ)) (ms : Members) → members_depth ms ≤ 4 → members_depth (with_prior prior ms) ≤ 4
prior-depth None ms h = h
prior-depth (Some p) ms h = put_depth 4 key.Prior (numbers_data p) ms (omega (arith, numbers-depth p)) h

header-depth : (version : ℤ) (word : List ℕ) → members_depth (header_with version word) ≤ 4
header-depth version word = omega arith

demands-depth : (t : Truth) (r : Rational) (p n : Bool) (ms : Members) → members_depth ms ≤ 4 → members_depth (with_demands t r p n ms) ≤ 4
demands-depth t r p n ms h =
    let m1 = put key.Truth (string (truth_word t)) ms in
    let m2 = put key.Rational (string (rational_word r)) m1 in
    let m3 = put key.Payments (boolean p) m2 in
    let h1 : members_depth m1 ≤ 4 = put_depth 4 key.Truth (string (truth_word t)) ms (omega arith) h in
    let h2 : members_depth m2 ≤ 4 = put_depth 4 key.Rational (string (rational_word r)) m1 (omega arith) h1 in
    let h3 : members_depth m3 ≤ 4 = put_depth 4 key.Payments (boolean p) m2 (omega arith) h2 in
    put_depth 4 key.NoDeficit (boolean n) m3 (omega arith) h3

general-depth : (s : GeneralSetting) → members_depth (general_table s) ≤ 4
general-depth s =
    let m0 = header_with (version_number (version_of s.agents)) (codes "general") in
    let m1 = with_demands s.truth s.rational s.payments s.no_deficit m0 in
    let m2 = put key.Outcomes (texts_data s.outcomes) m1 in
    let m3 = put key.Objective (table (objective_table s.welfare s.revenue s.values)) m2 in
    let h1 : members_depth m1 ≤ 4 = demands-depth s.truth s.rational s.payments s.no_deficit m0 (header-depth (version_number (version_of s.agents)) (codes "general")) in
    let h2 : members_depth m2 ≤ 4 = put_depth 4 key.Outcomes (texts_data s.outcomes) m1 (omega (arith, texts-depth s.outcomes)) h1 in
    let h3 : members_depth m3 ≤ 4 = put_depth 4 key.Objective (table (objective_table s.welfare s.revenue s.values)) m2 (omega (arith, objective-depth s.welfare s.revenue s.values)) h2 in
    put_depth 4 key.Agent (agents_data s.prior s.agents) (with_prior s.prior m3) (agents-depth s.prior s.agents) (prior-depth s.prior m3 h3)

auction-depth : (a : SymmetricAuction) → members_depth (auction_table a) ≤ 4
auction-depth a =
    let m0 = header_with (pos 1) (codes "auction") in
    let m1 = put key.Bidders (integer (pos a.bidders)) m0 in
    let m2 = put key.Values (numbers_data a.values) m1 in
    let m3 = put key.Weights (numbers_data (as_written a).weights) m2 in
    let m4 = put key.Revenue (integer a.revenue) m3 in
    let m5 = put key.Welfare (integer a.welfare) m4 in
    let h1 : members_depth m1 ≤ 4 = put_depth 4 key.Bidders (integer (pos a.bidders)) m0 (omega arith) (header-depth (pos 1) (codes "auction")) in
    let h2 : members_depth m2 ≤ 4 = put_depth 4 key.Values (numbers_data a.values) m1 (omega (arith, numbers-depth a.values)) h1 in
    let h3 : members_depth m3 ≤ 4 = put_depth 4 key.Weights (numbers_data (as_written a).weights) m2 (omega (arith, numbers-depth (as_written a).weights)) h2 in
    let h4 : members_depth m4 ≤ 4 = put_depth 4 key.Revenue (integer a.revenue) m3 (omega arith) h3 in
    let h5 : members_depth m5 ≤ 4 = put_depth 4 key.Welfare (integer a.welfare) m4 (omega arith) h4 in
    put_depth 4 key.Keep (integer a.keep) m5 (omega arith) h5

group-depth : (group : WrittenGroup) → members_depth (group_table group) ≤ 1
group-depth g =
    let m1 = put key.BidderName (string g.name) no_members in
    let m2 = put key.BidderCount (integer g.count) m1 in
    let m3 = put key.BidderValues (numbers_data g.values) m2 in
    let m4 = put key.BidderWeights (numbers_data g.weights) m3 in
    let h1 : members_depth m1 ≤ 1 = put_depth 1 key.BidderName (string g.name) no_members (omega arith) (omega arith) in
    let h2 : members_depth m2 ≤ 1 = put_depth 1 key.BidderCount (integer g.count) m1 (omega arith) h1 in
    let h3 : members_depth m3 ≤ 1 = put_depth 1 key.BidderValues (numbers_data g.values) m2 (numbers-depth g.values) h2 in
    let h4 : members_depth m4 ≤ 1 = put_depth 1 key.BidderWeights (numbers_data g.weights) m3 (numbers-depth g.weights) h3 in
    put_depth 1 key.BidderWorth (integer g.worth) m4 (omega arith) h4

groups-depth : (groups : List WrittenGroup) → depth (groups_data groups) ≤ 4
groups-depth groups =
    let h : items_depth (items_from (λ group. table (group_table group)) groups) ≤ 3 =
    items-depth 3 (λ group. table (group_table group)) groups (λ group. omega (arith, group-depth group)) in
    omega (arith, h)

grouped-depth : (w : WrittenGroupedAuction) → members_depth (grouped_table w) ≤ 4
grouped-depth w =
    let m0 = header_with (pos 3) (codes "bidders") in
    let m1 = put key.Slots (numbers_data w.slots) m0 in
    let m2 = put key.Revenue (integer w.revenue) m1 in
    let m3 = put key.Welfare (integer w.welfare) m2 in
    let m4 = put key.Keep (integer w.keep) m3 in
    let h1 : members_depth m1 ≤ 4 = put_depth 4 key.Slots (numbers_data w.slots) m0 (omega (arith, numbers-depth w.slots)) (header-depth (pos 3) (codes "bidders")) in
    let h2 : members_depth m2 ≤ 4 = put_depth 4 key.Revenue (integer w.revenue) m1 (omega arith) h1 in
    let h3 : members_depth m3 ≤ 4 = put_depth 4 key.Welfare (integer w.welfare) m2 (omega arith) h2 in
    let h4 : members_depth m4 ≤ 4 = put_depth 4 key.Keep (integer w.keep) m3 (omega arith) h3 in
    put_depth 4 key.Bidder (groups_data w.groups) m4 (groups-depth w.groups) h4

file-depth : (f : SettingFile) → members_depth (file_table f) ≤ 4
file-depth (file.General s) = general-depth s
file-depth (file.Auction a) = auction-depth a
file-depth (file.Bidders a) = grouped-depth (grouped_as_written a)

-- ---- the bytes

document_back : (bytes : List ℕ) (ms : Members) → is_utf8 bytes ≡ true → parse_document bytes ≡ Some ms → document_of bytes ≡ Ok ms
document_back bytes ms u e = rw (u, e) refl

-- a text that is read as the document of a file says that file
-- the text says the document of the setting
pub text_document : (f : SettingFile) (bytes : List ℕ) (ms : Members) → is_utf8 bytes ≡ true → ms ≡ file_table f → (members_depth ms ≤ 80 → parse_document bytes ≡ Some ms)
    → document_of bytes ≡ Ok (file_table f)
text_document f bytes ms text same parsed =
    let little : members_depth ms ≤ 80 = omega (arith, ap members_depth same, file-depth f) in
    document_back bytes (file_table f) text (parsed little ∙ ap Some same)

-- which says the setting
pub text_back : (f : SettingFile) (bytes : List ℕ) → IsAccepted f → document_of bytes ≡ Ok (file_table f) → setting_of bytes ≡ Ok f
text_back f bytes accepted document =
    on_ok (document_of bytes) (file_table f) (λ members. kind_of members >>= λ kind. file_of kind members) document ∙ file_back f accepted
