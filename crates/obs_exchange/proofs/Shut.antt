-- Meters with pairs that a search passes over like frozen ones.
use Rattle.std.proofs.Common.{◌≡◌, ℕ, zero, suc, ◌≤◌, ◌||◌, ◌&&◌, Bool, true, false, Option, Some, None, is_some, List, [], ◌∷◌, length, get_or, refl, ap, ◌∙◌, inl, inr, ◌⊎◌, arith}
use Rattle.std.specs.List.{All}
use Rattle.obs_graph.specs.declared.Ends.{Ends}
use Rattle.obs_matroid.proofs.Contained.{All-from_In, In-from_All}
use Rattle.obs_meter.specs.declared.Touch.{Touch}
use Rattle.obs_assign.specs.declared.Move.{Move}
use Rattle.obs_assign.specs.Assignment.{Assignment}
use Rattle.obs_assign.specs.inner.Assignment.{has_flag}
use Rattle.obs_assign.specs.inner.Moves.{ArePath}
use Rattle.obs_assign.proofs.Slotted.{slot_item}
use Rattle.obs_exchange.specs.declared.Sources.{Sources}
use Rattle.obs_exchange.specs.declared.Sources.TheVariants.{All as AllSources, One}
use Rattle.obs_exchange.specs.inner.Searching.{BeginsAtSource, CanMove, IsReady}
use Rattle.obs_exchange.specs.inner.Setting.{IsOpen, IsSound, Setting, frozen_by, shut_by}

frozen_none : (fs : List Bool) (es : List (Option ℕ)) → frozen_by fs [] es ≡ fs
frozen_none [] es = refl
frozen_none (f ∷ fs) es = refl

pub shut_none : (a : Assignment) → shut_by [] a ≡ a
shut_none a = ap (λ (fs : List Bool). record a { frozen = fs }) (frozen_none a.frozen a.slots)

pub length-frozen_by : (fs ss : List Bool) (es : List (Option ℕ)) → length (frozen_by fs ss es) ≡ length fs
length-frozen_by [] ss es = refl
length-frozen_by (f ∷ fs) [] es = refl
length-frozen_by (f ∷ fs) (s ∷ ss) [] = refl
length-frozen_by (f ∷ fs) (s ∷ ss) (e ∷ es) = ap suc (length-frozen_by fs ss es)

first_either : (f s : Bool) (e : Option ℕ) → (f || (s && is_some e)) ≡ true → (f ≡ true) ⊎ ((k : ℕ) × (e ≡ Some k))
first_either true s e t = inl refl
first_either false true (Some k) t = inr (k, refl)
first_either false true None t = absurd (cc t)
first_either false false e t = absurd (cc t)

-- a meter that is passed over is frozen or has a pair
frozen_either : (fs ss : List Bool) (es : List (Option ℕ)) (m : ℕ) → has_flag (frozen_by fs ss es) m ≡ true → (has_flag fs m ≡ true) ⊎ ((k : ℕ) × (get_or es m None ≡ Some k))
frozen_either [] ss es m t = inl t
frozen_either (f ∷ fs) [] es m t = inl t
frozen_either (f ∷ fs) (s ∷ ss) [] m t = inl t
frozen_either (f ∷ fs) (s ∷ ss) (e ∷ es) zero t = first_either f s e t
frozen_either (f ∷ fs) (s ∷ ss) (e ∷ es) (suc m) t = frozen_either fs ss es m t

first_less : (f s : Bool) (e : Option ℕ) → (f || (s && is_some e)) ≡ false → f ≡ false
first_less true s e t = absurd (cc t)
first_less false s e t = refl

-- a meter that isn't passed over isn't frozen
frozen_less : (fs ss : List Bool) (es : List (Option ℕ)) (m : ℕ) → has_flag (frozen_by fs ss es) m ≡ false → has_flag fs m ≡ false
frozen_less [] ss es m t = t
frozen_less (f ∷ fs) [] es m t = t
frozen_less (f ∷ fs) (s ∷ ss) [] m t = t
frozen_less (f ∷ fs) (s ∷ ss) (e ∷ es) zero t = first_less f s e t
frozen_less (f ∷ fs) (s ∷ ss) (e ∷ es) (suc m) t = frozen_less fs ss es m t

or_false : (b : Bool) → b ≡ (b || false)
or_false true = refl
or_false false = refl

and_false : (b : Bool) → false ≡ (b && false)
and_false true = refl
and_false false = refl

pub frozen_is : (fs ss : List Bool) (es : List (Option ℕ)) (m : ℕ) → length fs ≡ length es
    → has_flag (frozen_by fs ss es) m ≡ (has_flag fs m || (has_flag ss m && is_some (get_or es m None)))
frozen_is [] ss [] m l = and_false (has_flag ss m)
frozen_is [] ss (e ∷ es) m l = absurd (omega (arith, l))
frozen_is (f ∷ fs) [] es m l = or_false (has_flag (f ∷ fs) m)
frozen_is (f ∷ fs) (s ∷ ss) [] m l = absurd (omega (arith, l))
frozen_is (f ∷ fs) (s ∷ ss) (e ∷ es) zero l = refl
frozen_is (f ∷ fs) (s ∷ ss) (e ∷ es) (suc m) l = frozen_is fs ss es m (omega (arith, l))

pub no_flag_beyond : (ss : List Bool) (m : ℕ) → length ss ≤ m → has_flag ss m ≡ false
no_flag_beyond [] m l = refl
no_flag_beyond (s ∷ ss) zero l = absurd (omega (arith, l))
no_flag_beyond (s ∷ ss) (suc m) l = no_flag_beyond ss m (omega (arith, l))

-- a search that passes them over is over what a search may be over
pub IsSound-shut : (over : Setting) (shut : List Bool) → IsSound over → IsSound (record over { assignment = shut_by shut over.assignment })
IsSound-shut over shut s =
    let a = over.assignment in
    let w = s.whole in
    record {
      branches = s.branches;
      in_range = s.in_range;
      whole = record {
        paired = record {
          flags = length-frozen_by a.frozen shut a.slots ∙ w.paired.flags;
          holds = w.paired.holds;
          frozen_have = λ m t. elim (frozen_either a.frozen shut a.slots m t) [
            | inl f ↦ w.paired.frozen_have m f
            | inr e ↦ slot_item a.slots m e.0 e.1
          ];
        };
        meters = w.meters;
        vertices = w.vertices;
        positions = w.positions;
      };
      stands = record { forest = s.stands.forest; meters = s.stands.meters; touched = s.stands.touched };
      sources_low = s.sources_low;
      ups_len = s.ups_len;
      depths_len = s.depths_len;
      forest = s.forest;
      ways = s.ways;
    }

all_open : (fs ss : List Bool) (es : List (Option ℕ)) (rest : List Move) → All (λ (x : Move). has_flag (frozen_by fs ss es) x.meter ≡ false) rest
    → All (λ (x : Move). has_flag fs x.meter ≡ false) rest
all_open fs ss es rest u =
    All-from_In (λ (x : Move). has_flag fs x.meter ≡ false) rest
    (λ x i. frozen_less fs ss es x.meter (In-from_All (λ (y : Move). has_flag (frozen_by fs ss es) y.meter ≡ false) rest u x i))

path_open : (a : Assignment) (shut : List Bool) (path : List Move) → ArePath (shut_by shut a) path → ArePath a path
path_open a shut [] p = p
path_open a shut (x ∷ rest) p = record { low = p.low; bare = p.bare; paired = p.paired; thawed = all_open a.frozen shut a.slots rest p.thawed; different = p.different }

source_open : (ends : List (Option Ends)) (touches : List Touch) (from : Sources) (a : Assignment) (shut : List Bool) (path : List Move)
    → BeginsAtSource ends touches from (shut_by shut a) path → BeginsAtSource ends touches from a path
source_open ends touches from a shut [] s = s
source_open ends touches AllSources a shut (x ∷ path) s = s
source_open ends touches (One m) a shut (x ∷ path) s = s

-- a path that it finds is one where nothing is passed over
pub IsReady-shut : (over ahead : Setting) → IsOpen over ahead → (path : List Move) → IsReady ahead path → IsReady over path
IsReady-shut over ahead o path r =
    let can : CanMove over.graph.ends over.touches (shut_by o.shut over.assignment) path = rw (o.graph, o.touches, o.assignment) at r.can in
    let begins : BeginsAtSource over.graph.ends over.touches over.sources (shut_by o.shut over.assignment) path = rw (o.graph, o.touches, o.assignment, o.sources) at r.begins in
    record {
      can = record { are_path = path_open over.assignment o.shut path can.are_path; assigns = can.assigns };
      begins = source_open over.graph.ends over.touches over.sources over.assignment o.shut path begins;
    }
