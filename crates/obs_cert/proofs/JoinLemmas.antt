-- The ways up while branches are joined one after the other.
use Rattle.std.proofs.Common.{◌≡◌, ℕ, suc, ◌+◌, ◌<◌, ◌≤◌, min, max, Option, None, ◌⊎◌, inl, inr, List, [], ◌∷◌, ◌++◌, length, take, drop, get_or, set, refl, sym, ap, ◌∙◌, subst, arith, drop-cons, get_or-set_same, get_or-set_other, length-set, length-take-le, take-suc-set}
use Rattle.std.specs.List.{cons_option}
use Rattle.std.proofs.lemmas.Bool.{cases_eq, cases_lt}
use Rattle.std.proofs.lemmas.List.{drop_all, length_push}
use Rattle.obs_graph.specs.declared.Ends.{Ends}
use Rattle.obs_graph.specs.Joined.{first_joined, merged, rank}
use Rattle.obs_graph.proofs.First.{first_joined-le, merged-min, merged-other, merged-top}
use Rattle.obs_graph.proofs.Forests.{rank-nil}
use Rattle.obs_graph.proofs.Ranks.{first_joined-add_joined, rank-add_joined, rank-add_new, rank-le-n}
use Rattle.obs_matroid.specs.Lists.{In}
use Rattle.obs_matroid.proofs.Lists.{In-append_left, In-append_right, In-append_cases}
use Rattle.obs_cert.specs.inner.Joins.{AreFirsts, AreJoined, AreLow, onto}

-- the ways that all end at once
pub own_joined : (ups : List ℕ) → ((u : ℕ) → u < length ups → get_or ups u 0 ≡ u) → AreJoined [] ups []
own_joined ups own = record {
  low = λ u l. omega (arith, own u l);
  firsts = record { same = λ u l. own u l; top = λ u l e. refl };
  noted = λ u l ne. absurd (ne (own u l));
  within = λ u i. absurd i;
  count = sym (rank-nil (length ups));
}

-- the ways became shorter
pub shortened : (es : List Ends) (ups after moved : List ℕ) → length after ≡ length ups → AreLow after → ((u : ℕ) → get_or after u 0 ≡ u → get_or ups u 0 ≡ u) → ((u : ℕ) → get_or ups u 0 ≡ u → get_or after u 0 ≡ u) → (AreFirsts es ups → AreFirsts es after)
    → AreJoined es ups moved → AreJoined es after moved
shortened es ups after moved len low back on firsts j = record {
  low = low;
  firsts = firsts j.firsts;
  noted = λ u l ne. j.noted u (omega (arith, len, l)) (λ e. ne (on u e));
  within = λ u i. omega (arith, len, j.within u i);
  count = j.count ∙ ap (λ n. rank n es) (sym len);
}

-- a branch whose ends are joined
pub joined_already : (es : List Ends) (e : Ends) (ups moved : List ℕ) → first_joined es e.a ≡ first_joined es e.b → AreJoined es ups moved → AreJoined (e ∷ es) ups moved
joined_already es e ups moved same j = record {
  low = j.low;
  firsts = record {
    same = λ u l. first_joined-add_joined e es same (get_or ups u 0) ∙ j.firsts.same u l ∙ sym (first_joined-add_joined e es same u);
    top = λ u l t. first_joined-add_joined e es same u ∙ j.firsts.top u l t;
  };
  noted = j.noted;
  within = j.within;
  count = j.count ∙ sym (rank-add_joined (length ups) e es same);
}

module _ (es : List Ends) (e : Ends) (ups moved : List ℕ) (count x y low high : ℕ) (j : AreJoined es ups (take count moved)) (room : count < length moved)
    (is_x : x ≡ first_joined es e.a) (is_y : y ≡ first_joined es e.b) (apart : x ≡ y → ⊥) (in_a : e.a < length ups) (in_b : e.b < length ups)
    (is_low : low ≡ min x y) (is_high : high ≡ max x y) (fixed_low : first_joined es low ≡ low) (fixed_high : first_joined es high ≡ high) where
  below_x : x < length ups
  below_x = omega (arith, is_x, first_joined-le es e.a, in_a)

  below_y : y < length ups
  below_y = omega (arith, is_y, first_joined-le es e.b, in_b)

  below_high : high < length ups
  below_high = grind (arith, is_high, below_x, below_y)

  lower : low < high
  lower = grind (arith, is_low, is_high, apart)

  abbrev after : List ℕ
  after = set ups high low

  next : (u : ℕ) → first_joined (e ∷ es) u ≡ merged x y (first_joined es u)
  next u = ap (λ (t : ℕ). merged t (first_joined es e.b) (first_joined es u)) (sym is_x) ∙ ap (λ (t : ℕ). merged x t (first_joined es u)) (sym is_y)

  next_low : first_joined (e ∷ es) low ≡ low
  next_low = next low ∙ ap (merged x y) (fixed_low ∙ is_low) ∙ merged-min x y ∙ sym is_low

  next_high : first_joined (e ∷ es) high ≡ low
  next_high = next high ∙ ap (merged x y) fixed_high ∙ merged-top x y high is_high ∙ sym is_low

  pub led : AreJoined (e ∷ es) (set ups high low) (take (suc count) (set moved count high))
  led = rw (take-suc-set moved count high room) (record {
    low = λ u l. elim (cases_eq u high) [
      | inl is ↦ omega (arith, ap (λ v. get_or (set ups high low) v 0) is, get_or-set_same ups high low 0 below_high, lower)
      | inr ne ↦ omega (arith, get_or-set_other ups high u low 0 ne, j.low u (omega (arith, l, length-set ups high low)))
    ];
    firsts = record {
      same = λ u l. elim (cases_eq u high) [
        | inl is ↦
            ap (first_joined (e ∷ es)) (ap (λ v. get_or (set ups high low) v 0) is ∙ get_or-set_same ups high low 0 below_high) ∙ next_low ∙ sym (ap (first_joined (e ∷ es)) is ∙ next_high)
        | inr ne ↦
            ap (first_joined (e ∷ es)) (get_or-set_other ups high u low 0 ne)
            ∙ next (get_or ups u 0) ∙ ap (merged x y) (j.firsts.same u (omega (arith, l, length-set ups high low))) ∙ sym (next u)
      ];
      top = λ u l t. elim (cases_eq u high) [
        | inl is ↦ absurd (let e2 : get_or (set ups high low) u 0 ≡ low = ap (λ v. get_or (set ups high low) v 0) is ∙ get_or-set_same ups high low 0 below_high in omega (arith, e2, t, is, lower))
        | inr ne ↦
            let f = j.firsts.top u (omega (arith, l, length-set ups high low)) (sym (get_or-set_other ups high u low 0 ne) ∙ t) in
            next u ∙ ap (merged x y) f ∙ merged-other x y u (λ m. ne (m ∙ sym is_high))
      ];
    };
    noted = λ u l ne. elim (cases_eq u high) [
      | inl is ↦ In-append_right u (take count moved) (high ∷ []) (inl is)
      | inr other ↦
          In-append_left u (take count moved) (high ∷ [])
          (j.noted u (omega (arith, l, length-set ups high low)) (λ t. ne (get_or-set_other ups high u low 0 other ∙ t)))
    ];
    within = λ u i. elim (In-append_cases u (take count moved) (high ∷ []) i) [
      | inl h ↦ omega (arith, j.within u h, length-set ups high low)
      | inr h ↦ elim h [ inl is ↦ omega (arith, is, below_high, length-set ups high low) | inr k ↦ absurd k ]
    ];
    count = counted;
  })
    where
      counted : length (take count moved ++ high ∷ []) ≡ rank (length (set ups high low)) (e ∷ es)
      counted =
          let apart_firsts : first_joined es e.a ≡ first_joined es e.b → ⊥ = λ s. apart (is_x ∙ s ∙ sym is_y) in
          let one = rank-add_new (length ups) e es in_a in_b apart_firsts in
          let long = length_push (take count moved) high in
          let same : rank (length (set ups high low)) (e ∷ es) ≡ rank (length ups) (e ∷ es) = ap (λ n. rank n (e ∷ es)) (length-set ups high low) in
          omega (arith, long, one, same, j.count)

-- the ways while one is followed, from v to w
pub record IsShorter (before now : List ℕ) (v w : ℕ) : Type 0 where
  pub len : length now ≡ length before
  pub low : AreLow now
  pub under : w ≤ v
  pub back : (u : ℕ) → get_or now u 0 ≡ u → get_or before u 0 ≡ u
  pub on : (u : ℕ) → get_or before u 0 ≡ u → get_or now u 0 ≡ u
  pub firsts : (es : List Ends) → AreFirsts es before → AreFirsts es now
  pub joined : (es : List Ends) → AreFirsts es before → first_joined es w ≡ first_joined es v

pub shorter_none : (ups : List ℕ) (v : ℕ) → AreLow ups → IsShorter ups ups v v
shorter_none ups v low = record { len = refl; low = low; under = omega arith; back = λ u e. e; on = λ u e. e; firsts = λ es f. f; joined = λ es f. refl }

module _ (before now : List ℕ) (v w : ℕ) (so_far : IsShorter before now v w) (in_w : w < length now) (goes : get_or now w 0 ≡ w → ⊥) where
  abbrev up1 : ℕ
  up1 = get_or now w 0

  abbrev up2 : ℕ
  up2 = get_or now up1 0

  pub low_once : get_or now w 0 < w
  low_once = (let a = so_far.low w in_w in let b = goes in grind (arith, a, b))

  pub low_twice : get_or now (get_or now w 0) 0 ≤ get_or now w 0
  low_twice = so_far.low up1 (omega (arith, low_once, in_w))

  pub shorter_next : IsShorter before (set now w (get_or now (get_or now w 0) 0)) v (get_or now (get_or now w 0) 0)
  shorter_next = record {
    len = length-set now w up2 ∙ so_far.len;
    low = λ u l. elim (cases_eq u w) [
      | inl is ↦ omega (arith, ap (λ t. get_or (set now w up2) t 0) is, get_or-set_same now w up2 0 in_w, low_once, low_twice, is)
      | inr ne ↦ omega (arith, get_or-set_other now w u up2 0 ne, so_far.low u (omega (arith, l, length-set now w up2)))
    ];
    under = omega (arith, low_once, low_twice, so_far.under);
    back = λ u e. elim (cases_eq u w) [
      | inl is ↦ absurd (let k : get_or (set now w up2) u 0 ≡ up2 = ap (λ t. get_or (set now w up2) t 0) is ∙ get_or-set_same now w up2 0 in_w in omega (arith, k, e, is, low_once, low_twice))
      | inr ne ↦ so_far.back u (sym (get_or-set_other now w u up2 0 ne) ∙ e)
    ];
    on = λ u e. elim (cases_eq u w) [
      | inl is ↦ absurd (goes (ap (λ t. get_or now t 0) (sym is) ∙ so_far.on u e ∙ is))
      | inr ne ↦ get_or-set_other now w u up2 0 ne ∙ so_far.on u e
    ];
    firsts = λ es f. let g = so_far.firsts es f in record {
      same = λ u l. elim (cases_eq u w) [
        | inl is ↦
            ap (first_joined es) (ap (λ t. get_or (set now w up2) t 0) is ∙ get_or-set_same now w up2 0 in_w)
            ∙ g.same up1 (omega (arith, low_once, in_w)) ∙ g.same w in_w ∙ ap (first_joined es) (sym is)
        | inr ne ↦ ap (first_joined es) (get_or-set_other now w u up2 0 ne) ∙ g.same u (omega (arith, l, length-set now w up2))
      ];
      top = λ u l e. elim (cases_eq u w) [
        | inl is ↦ absurd (let k : get_or (set now w up2) u 0 ≡ up2 = ap (λ t. get_or (set now w up2) t 0) is ∙ get_or-set_same now w up2 0 in_w in omega (arith, k, e, is, low_once, low_twice))
        | inr ne ↦ g.top u (omega (arith, l, length-set now w up2)) (sym (get_or-set_other now w u up2 0 ne) ∙ e)
      ];
    };
    joined = λ es f. let g = so_far.firsts es f in g.same up1 (omega (arith, low_once, in_w)) ∙ g.same w in_w ∙ so_far.joined es f;
  }

-- the vertices whose ways don't end at themselves are still to be cleared
pub record IsClearing (moved : List ℕ) (i : ℕ) (ups : List ℕ) : Type 0 where
  pub within : (u : ℕ) → In u (drop i moved) → u < length ups
  pub left : (u : ℕ) → u < length ups → (get_or ups u 0 ≡ u) ⊎ In u (drop i moved)

pub clearing_none : (es : List Ends) (ups moved : List ℕ) → AreJoined es ups moved → IsClearing moved 0 ups
clearing_none es ups moved j = record {
  within = j.within;
  left = λ u l. elim (cases_eq (get_or ups u 0) u) [ inl e ↦ inl e | inr n ↦ inr (j.noted u l n) ];
}

module _ (moved : List ℕ) (i : ℕ) (ups : List ℕ) (so_far : IsClearing moved i ups) (in_i : i < length moved) where
  pub clearing_within : get_or moved i 0 < length ups
  clearing_within = so_far.within (get_or moved i 0) (rw (drop-cons moved i 0 in_i) (inl refl))

  pub clearing_next : IsClearing moved (suc i) (set ups (get_or moved i 0) (get_or moved i 0))
  clearing_next =
      let v = get_or moved i 0 in
      record {
        within = λ u h. omega (arith, length-set ups v v, so_far.within u (rw (drop-cons moved i 0 in_i) (inr h)));
        left = λ u l. elim (cases_eq u v) [
          | inl is ↦ inl (ap (λ t. get_or (set ups v v) t 0) is ∙ get_or-set_same ups v v 0 clearing_within ∙ sym is)
          | inr ne ↦ elim (so_far.left u (omega (arith, l, length-set ups v v))) [
            | inl e ↦ inl (get_or-set_other ups v u v 0 ne ∙ e)
            | inr h ↦ elim (rw (drop-cons moved i 0 in_i) at h) [ inl is ↦ absurd (ne is) | inr k ↦ inr k ]
          ]
        ];
      }

pub cleared : (moved : List ℕ) (i : ℕ) (ups : List ℕ) → length moved ≤ i → IsClearing moved i ups → AreJoined [] ups []
cleared moved i ups end c = own_joined ups (λ u l. elim (c.left u l) [ inl e ↦ e | inr h ↦ absurd (rw (drop_all i moved end) at h) ])

pub begun : (ups : List ℕ) (v : ℕ) → v < length ups → ((u : ℕ) → u < v → get_or ups u 0 ≡ u) → (u : ℕ) → u < v + 1 → get_or (set ups v v) u 0 ≡ u
begun ups v in_v so_far u l = elim (cases_eq u v) [
  | inl is ↦ ap (λ t. get_or (set ups v v) t 0) is ∙ get_or-set_same ups v v 0 in_v ∙ sym is
  | inr ne ↦ get_or-set_other ups v u v 0 ne ∙ so_far u (grind (arith, l, ne))
]

-- two ways were followed, from a to x and then from b to y
pub record AreFound (es : List Ends) (ups moved : List ℕ) (a b x y : ℕ) : Type 0 where
  pub joined : AreJoined es ups moved
  pub x_is : x ≡ first_joined es a
  pub y_is : y ≡ first_joined es b
  pub x_fixed : first_joined es x ≡ x
  pub y_fixed : first_joined es y ≡ y

pub found : (es : List Ends) (ups one two moved : List ℕ) (a b x y : ℕ) → AreJoined es ups moved → a < length ups → b < length ups → IsShorter ups one a x → get_or one x 0 ≡ x → IsShorter one two b y → get_or two y 0 ≡ y
    → AreFound es two moved a b x y
found es ups one two moved a b x y j in_a in_b s top_x t top_y =
    let f = s.firsts es j.firsts in
    let g = t.firsts es f in
    let fixed_x = g.top x (omega (arith, s.under, in_a, s.len, t.len)) (t.on x top_x) in
    let fixed_y = g.top y (omega (arith, t.under, in_b, s.len, t.len)) top_y in
    record {
      joined = shortened es one two moved t.len t.low t.back t.on (t.firsts es) (shortened es ups one moved s.len s.low s.back s.on (s.firsts es) j);
      x_is = sym fixed_x ∙ s.joined es j.firsts;
      y_is = sym fixed_y ∙ t.joined es f;
      x_fixed = fixed_x;
      y_fixed = fixed_y;
    }

min_fixed : (r : ℕ → ℕ) (x y : ℕ) → r x ≡ x → r y ≡ y → (r (min x y) ≡ min x y) × (r (max x y) ≡ max x y)
min_fixed r x y ex ey = elim (cases_lt x y) [
  | inl l ↦ (let a : min x y ≡ x = grind (arith, l) in let b : max x y ≡ y = grind (arith, l) in (ap r a ∙ ex ∙ sym a, ap r b ∙ ey ∙ sym b))
  | inr n ↦ (let a : min x y ≡ y = grind (arith, n) in let b : max x y ≡ x = grind (arith, n) in (ap r a ∙ ey ∙ sym a, ap r b ∙ ex ∙ sym b))
]

-- there is room for one more
pub room_left : (es : List Ends) (e : Ends) (ups moved : List ℕ) (count : ℕ) → AreJoined es ups (take count moved) → count ≤ length moved → length ups ≤ length moved → e.a < length ups → e.b < length ups → (first_joined es e.a ≡ first_joined es e.b → ⊥) → count < length moved
room_left es e ups moved count j fits room in_a in_b apart =
    omega (arith, length-take-le count moved fits, j.count, rank-add_new (length ups) e es in_a in_b apart, rank-le-n (length ups) (e ∷ es), room)

pub joined_new : (es : List Ends) (e : Ends) (ups moved : List ℕ) (count x y : ℕ) → AreFound es ups (take count moved) e.a e.b x y → count < length moved → e.a < length ups → e.b < length ups → (x ≡ y → ⊥)
    → AreJoined (e ∷ es) (set ups (max x y) (min x y)) (take (suc count) (set moved count (max x y)))
joined_new es e ups moved count x y f room in_a in_b apart =
    let fixed = min_fixed (first_joined es) x y f.x_fixed f.y_fixed in
    led es e ups moved count x y (min x y) (max x y) f.joined room f.x_is f.y_is apart in_a in_b refl refl fixed.0 fixed.1

pub count_is : (es : List Ends) (ups moved : List ℕ) (count : ℕ) → count ≤ length moved → AreJoined es ups (take count moved) → count ≡ rank (length ups) es
count_is es ups moved count fits j = sym (length-take-le count moved fits) ∙ j.count

-- while branches at positions are joined: what all come to is what those that are left come to
pub record IsJoining (ends : List (Option Ends)) (left all : List ℕ) (ups0 moved0 : List ℕ) (count0 : ℕ) (ups moved : List ℕ) (count : ℕ) : Type 0 where
  pub fits : count ≤ length moved
  pub ups_len : length ups ≡ length ups0
  pub moved_len : length moved ≡ length moved0
  pub joined : (es : List Ends) → AreJoined es ups0 (take count0 moved0) → (fs : List Ends) × AreJoined fs ups (take count moved) × (onto ends left fs ≡ onto ends all es)

pub joining_none : (ends : List (Option Ends)) (all ups moved : List ℕ) (count : ℕ) → count ≤ length moved → IsJoining ends all all ups moved count ups moved count
joining_none ends all ups moved count fits = record { fits = fits; ups_len = refl; moved_len = refl; joined = λ es j. (es, j, refl) }

pub onto-append : (ends : List (Option Ends)) (xs ys : List ℕ) (es : List Ends) → onto ends (xs ++ ys) es ≡ onto ends ys (onto ends xs es)
onto-append ends [] ys es = refl
onto-append ends (x ∷ xs) ys es = onto-append ends xs ys (cons_option (get_or ends x None) es)

-- some positions more
pub joining_some : (ends : List (Option Ends)) (xs left all ups0 moved0 : List ℕ) (count0 : ℕ) (ups moved : List ℕ) (count : ℕ) (ups2 moved2 : List ℕ) (count2 : ℕ)
    → IsJoining ends (xs ++ left) all ups0 moved0 count0 ups moved count
    → count2 ≤ length moved2 → length ups2 ≡ length ups → length moved2 ≡ length moved
    → ((es : List Ends) → AreJoined es ups (take count moved) → AreJoined (onto ends xs es) ups2 (take count2 moved2))
    → IsJoining ends left all ups0 moved0 count0 ups2 moved2 count2
joining_some ends xs left all ups0 moved0 count0 ups moved count ups2 moved2 count2 i fits len1 len2 step = record {
  fits = fits;
  ups_len = len1 ∙ i.ups_len;
  moved_len = len2 ∙ i.moved_len;
  joined = λ es j. let q = i.joined es j in (onto ends xs q.0, step q.0 q.1, sym (onto-append ends xs left q.0) ∙ q.2);
}

-- one position more, where o is what is there
pub joining_one : (ends : List (Option Ends)) (p : ℕ) (left all ups0 moved0 : List ℕ) (count0 : ℕ) (ups moved : List ℕ) (count : ℕ) (o : Option Ends) (ups2 moved2 : List ℕ) (count2 : ℕ)
    → IsJoining ends (p ∷ left) all ups0 moved0 count0 ups moved count → get_or ends p None ≡ o
    → count2 ≤ length moved2 → length ups2 ≡ length ups → length moved2 ≡ length moved
    → ((es : List Ends) → AreJoined es ups (take count moved) → AreJoined (cons_option o es) ups2 (take count2 moved2))
    → IsJoining ends left all ups0 moved0 count0 ups2 moved2 count2
joining_one ends p left all ups0 moved0 count0 ups moved count o ups2 moved2 count2 i is fits len1 len2 step =
    joining_some ends (p ∷ []) left all ups0 moved0 count0 ups moved count ups2 moved2 count2 i fits len1 len2
    (λ es j. subst (λ there. AreJoined (cons_option there es) ups2 (take count2 moved2)) (sym is) (step es j))

pub joining_end : (ends : List (Option Ends)) (all ups0 moved0 : List ℕ) (count0 : ℕ) (ups moved : List ℕ) (count : ℕ)
    → IsJoining ends [] all ups0 moved0 count0 ups moved count → (es : List Ends) → AreJoined es ups0 (take count0 moved0) → AreJoined (onto ends all es) ups (take count moved)
joining_end ends all ups0 moved0 count0 ups moved count i es j = let q = i.joined es j in subst (λ fs. AreJoined fs ups (take count moved)) q.2 q.1
