-- Layers and their lists, one after the other.
use Rattle.std.proofs.Common.{◌≡◌, ℕ, ◌≤◌, ◌||◌, ◌&&◌, Bool, true, false, not, nat_lt, Option, List, [], ◌∷◌, ◌++◌, length, take, refl, sym, ap, ◌∙◌, subst, append_assoc}
use Rattle.std.specs.List.{flat_map, list_any}
use Rattle.std.proofs.lemmas.Bool.{eq-eqb, ne_eqb}
use Rattle.std.proofs.lemmas.Grind.{flat_map-append}
use Rattle.std.proofs.lemmas.List.Folds.{list_any-append}
use Rattle.std.proofs.Math.Bool.{or-true}
use Rattle.obs_case.specs.Tables.{Tables}
use Rattle.obs_graph.specs.declared.Ends.{Ends}
use Rattle.obs_cert.specs.declared.layers.Seen.{Seen}
use Rattle.obs_cert.specs.Claims.{Item, Layer}
use Rattle.obs_cert.specs.Flaws.{Listed, listed_from, not_inside, rank_of_items, wrong_rank}
use Rattle.obs_cert.specs.inner.Joins.{AreJoined, onto}
use Rattle.obs_cert.specs.Numbered.{item_of, items_of}
use Rattle.obs_network.specs.Network.{is_meter}
use Rattle.obs_cert.specs.Scopes.{is_below, is_live_item, item_touches, price_at}
use Rattle.obs_cert.specs.inner.Seen.{TellsLayers, too_dear}
use Rattle.obs_cert.proofs.JoinLemmas.{onto-append}

-- while items are seen
abbrev pub IsSeeing : Tables → List Item → List Item → Seen → Seen → Type 0
IsSeeing t left all before now =
    (list : List ℕ) → TellsLayers t list before → (done : List ℕ) × TellsLayers t done now × (done ++ items_of t left ≡ list ++ items_of t all)

pub seeing_start : (t : Tables) (all : List Item) (seen : Seen) → IsSeeing t all all seen seen
seeing_start t all seen list tells = (list, tells, refl)

pub seeing_more : (t : Tables) (item : Item) (left all : List Item) (before now after : Seen) → IsSeeing t (item ∷ left) all before now
    → ((list : List ℕ) → TellsLayers t list now → TellsLayers t (list ++ item_of t item ∷ []) after) → IsSeeing t left all before after
seeing_more t item left all before now after i step list tells =
    let q = i list tells in
    (q.0 ++ item_of t item ∷ [], step q.0 q.1, append_assoc q.0 (item_of t item ∷ []) (items_of t left) ∙ q.2)

-- one item more is seen: one that isn't live, a meter, or a candidate
or_end : (a : Bool) → (a || false) ≡ a
or_end true = refl
or_end false = refl

or_assoc : (a b d : Bool) → ((a || b) || d) ≡ (a || (b || d))
or_assoc true b d = refl
or_assoc false b d = refl

module _ (t : Tables) (m : ℕ) (now : Seen) (list : List ℕ) (tells : TellsLayers t list now) where
  one_more : (live meter : Bool) → is_live_item t m ≡ live → is_meter t m ≡ meter → (to : ℕ)
      → not_inside (is_below t to) (list ++ m ∷ []) ≡ ((now.idle || too_dear now.dearest to) || (not (live && (meter || nat_lt (price_at t m) to)) || false))
  one_more live meter a b to =
      let p : ℕ → Bool = λ x. not (is_below t to x) in
      list_any-append p list (m ∷ []) ∙ ap (λ (x : Bool). x || (p m || false)) (tells to)
      ∙ ap (λ (x : Bool). (now.idle || too_dear now.dearest to) || (not (x && (is_meter t m || nat_lt (price_at t m) to)) || false)) a
      ∙ ap (λ (x : Bool). (now.idle || too_dear now.dearest to) || (not (live && (x || nat_lt (price_at t m) to)) || false)) b

  pub tells_idle : is_live_item t m ≡ false → TellsLayers t (list ++ m ∷ []) (record { idle = true; dearest = now.dearest })
  tells_idle dead to = one_more false (is_meter t m) dead refl to ∙ or-true (now.idle || too_dear now.dearest to)

  pub tells_meter : is_live_item t m ≡ true → is_meter t m ≡ true → TellsLayers t (list ++ m ∷ []) now
  tells_meter live meter to = one_more true true live meter to ∙ or_end (now.idle || too_dear now.dearest to)

  pub tells_price : (dearest : Option ℕ) (price : ℕ) → is_live_item t m ≡ true → is_meter t m ≡ false → price ≡ price_at t m
      → ((to : ℕ) → too_dear dearest to ≡ (too_dear now.dearest to || not (nat_lt price to))) → TellsLayers t (list ++ m ∷ []) (record { idle = now.idle; dearest = dearest })
  tells_price dearest price live meter is dearer to =
      let dear = too_dear now.dearest to in
      let high = not (nat_lt (price_at t m) to) in
      one_more true false live meter to ∙ ap (λ (x : Bool). (now.idle || dear) || x) (or_end high) ∙ or_assoc now.idle dear high
      ∙ ap (λ (x : Bool). now.idle || x) (sym (dearer to ∙ ap (λ (x : ℕ). dear || not (nat_lt x to)) is))

-- while layers are looked at for items that they may not speak of
pub record IsLooking (t : Tables) (left all : List Layer) (seen : Seen) : Type 0 where
  pub before : List ℕ
  pub tells : TellsLayers t before seen
  pub going : list_any (λ (l : Listed). not_inside (is_below t l.layer.to) l.list) (listed_from t [] all) ≡ list_any (λ (l : Listed). not_inside (is_below t l.layer.to) l.list) (listed_from t before left)

module _ (t : Tables) (layer : Layer) (left all : List Layer) (seen after : Seen) (so_far : IsLooking t (layer ∷ left) all seen)
    (step : (list : List ℕ) → TellsLayers t list seen → TellsLayers t (list ++ items_of t layer.inside) after) where
  here : not_inside (is_below t layer.to) (so_far.before ++ items_of t layer.inside) ≡ (after.idle || too_dear after.dearest layer.to)
  here = step so_far.before so_far.tells layer.to

  pub looking_on : (after.idle || too_dear after.dearest layer.to) ≡ false → IsLooking t left all after
  looking_on f = record {
    before = so_far.before ++ items_of t layer.inside;
    tells = step so_far.before so_far.tells;
    going =
        so_far.going
        ∙ ap (λ (b : Bool). b || list_any (λ (l : Listed). not_inside (is_below t l.layer.to) l.list) (listed_from t (so_far.before ++ items_of t layer.inside) left)) (here ∙ f);
  }

-- while the ranks of layers are taken
pub record IsRanking (t : Tables) (ends : List (Option Ends)) (left all : List Layer) (ups moved : List ℕ) (count : ℕ) (wrong : Bool) : Type 0 where
  pub fits : count ≤ length moved
  pub before : List ℕ
  pub joined : AreJoined (onto ends (flat_map (item_touches t) before) []) ups (take count moved)
  pub going : list_any (λ (l : Listed). wrong_rank t l.list l.layer.rank) (listed_from t [] all) ≡ (wrong || list_any (λ (l : Listed). wrong_rank t l.list l.layer.rank) (listed_from t before left))

module _ (t : Tables) (ends : List (Option Ends)) (layer : Layer) (left all : List Layer) (ups moved : List ℕ) (count : ℕ) (wrong : Bool) (ups2 moved2 : List ℕ) (count2 : ℕ)
    (so_far : IsRanking t ends (layer ∷ left) all ups moved count wrong) (fits : count2 ≤ length moved2)
    (step : (es : List Ends) → AreJoined es ups (take count moved) → AreJoined (onto ends (flat_map (item_touches t) (items_of t layer.inside)) es) ups2 (take count2 moved2)) where
  abbrev now_listed : List ℕ
  now_listed = so_far.before ++ items_of t layer.inside

  pub joined_now : AreJoined (onto ends (flat_map (item_touches t) (so_far.before ++ items_of t layer.inside)) []) ups2 (take count2 moved2)
  joined_now =
      let e = flat_map-append (item_touches t) so_far.before (items_of t layer.inside) in
      let f = onto-append ends (flat_map (item_touches t) so_far.before) (flat_map (item_touches t) (items_of t layer.inside)) [] in
      subst (λ es. AreJoined es ups2 (take count2 moved2)) (sym (ap (λ ps. onto ends ps []) e ∙ f)) (step (onto ends (flat_map (item_touches t) so_far.before) []) so_far.joined)

  abbrev rest : Bool
  rest = list_any (λ (l : Listed). wrong_rank t l.list l.layer.rank) (listed_from t (so_far.before ++ items_of t layer.inside) left)

  pub ranking_on : count2 ≡ rank_of_items t (so_far.before ++ items_of t layer.inside) → count2 ≡ layer.rank → IsRanking t ends left all ups2 moved2 count2 wrong
  ranking_on is right = record {
    fits = fits;
    before = now_listed;
    joined = joined_now;
    going = so_far.going ∙ ap (λ (b : Bool). wrong || (not b || rest)) (eq-eqb (rank_of_items t now_listed) layer.rank (sym is ∙ right));
  }

  pub ranking_wrong : count2 ≡ rank_of_items t (so_far.before ++ items_of t layer.inside) → (count2 ≡ layer.rank → ⊥) → IsRanking t ends left all ups2 moved2 count2 true
  ranking_wrong is differs = record {
    fits = fits;
    before = now_listed;
    joined = joined_now;
    going = so_far.going ∙ ap (λ (b : Bool). wrong || (not b || rest)) (ne_eqb (rank_of_items t now_listed) layer.rank (λ e. differs (is ∙ e))) ∙ or-true wrong;
  }
