-- A network is known by its parts.
use Rattle.std.proofs.Common.{◌≡◌, ℕ, Bool, Option, List, ap, ◌∙◌}
use Rattle.obs_graph.specs.declared.Ends.{Ends}
use Rattle.obs_graph.specs.Graph.{Graph}
use Rattle.obs_switch.specs.Held.{Buses}
use Rattle.obs_meter.specs.declared.Touch.{Touch}
use Rattle.obs_meter.specs.Held.{Meters}
use Rattle.obs_network.specs.Network.{Components, Network, Rows}

pub labelled_is : (a b : Buses) → a.buses ≡ b.buses → a.count ≡ b.count → a.most_nodes ≡ b.most_nodes → a ≡ b
labelled_is a b e f g =
    let of : List ℕ → ℕ → ℕ → Buses = λ x y z. record { buses = x; count = y; most_nodes = z } in
    ap (λ x. of x a.count a.most_nodes) e ∙ (ap (λ y. of b.buses y a.most_nodes) f ∙ ap (λ z. of b.buses b.count z) g)

pub grouped_is : (a b : Components) → a.of_buses ≡ b.of_buses → a.first_buses ≡ b.first_buses → a.sizes ≡ b.sizes → a.energised ≡ b.energised → a.absolute ≡ b.absolute → a.most_buses ≡ b.most_buses → a ≡ b
grouped_is a b e f g h l k =
    let of : List ℕ → List ℕ → List ℕ → List Bool → List Bool → ℕ → Components = λ x y z u v w. record { of_buses = x; first_buses = y; sizes = z; energised = u; absolute = v; most_buses = w } in
    ap (λ x. of x a.first_buses a.sizes a.energised a.absolute a.most_buses) e
    ∙ (ap (λ y. of b.of_buses y a.sizes a.energised a.absolute a.most_buses) f
    ∙ (ap (λ z. of b.of_buses b.first_buses z a.energised a.absolute a.most_buses) g
    ∙ (ap (λ u. of b.of_buses b.first_buses b.sizes u a.absolute a.most_buses) h
    ∙ (ap (λ v. of b.of_buses b.first_buses b.sizes b.energised v a.most_buses) l
    ∙ ap (λ w. of b.of_buses b.first_buses b.sizes b.energised b.absolute w) k))))

pub shape_is : (a b : Graph) → a.vertices ≡ b.vertices → a.ends ≡ b.ends → a.most_vertices ≡ b.most_vertices → a.most_branches ≡ b.most_branches → a ≡ b
shape_is a b e f g h =
    let of : ℕ → List (Option Ends) → ℕ → ℕ → Graph = λ x y z u. record { vertices = x; ends = y; most_vertices = z; most_branches = u } in
    ap (λ x. of x a.ends a.most_vertices a.most_branches) e
    ∙ (ap (λ y. of b.vertices y a.most_vertices a.most_branches) f ∙ (ap (λ z. of b.vertices b.ends z a.most_branches) g ∙ ap (λ u. of b.vertices b.ends b.most_vertices u) h))

pub items_are : (a b : Meters) → a.touches ≡ b.touches → a.most ≡ b.most → a ≡ b
items_are a b e f =
    let of : List Touch → ℕ → Meters = λ x y. record { touches = x; most = y } in
    ap (λ x. of x a.most) e ∙ ap (λ y. of b.touches y) f

pub rows_are : (a b : Rows) → a.nodes ≡ b.nodes → a.switches ≡ b.switches → a.branches ≡ b.branches → a.meters ≡ b.meters → a.candidates ≡ b.candidates → a ≡ b
rows_are a b e f g h k =
    let of : ℕ → ℕ → ℕ → ℕ → ℕ → Rows = λ x y z u w. record { nodes = x; switches = y; branches = z; meters = u; candidates = w } in
    ap (λ x. of x a.switches a.branches a.meters a.candidates) e
    ∙ (ap (λ y. of b.nodes y a.branches a.meters a.candidates) f
    ∙ (ap (λ z. of b.nodes b.switches z a.meters a.candidates) g ∙ (ap (λ u. of b.nodes b.switches b.branches u a.candidates) h ∙ ap (λ w. of b.nodes b.switches b.branches b.meters w) k)))

pub network_is : (a b : Network) → a.rows ≡ b.rows → a.buses ≡ b.buses → a.components ≡ b.components → a.graph ≡ b.graph → a.meters ≡ b.meters → a.offered ≡ b.offered → a.needed ≡ b.needed → a ≡ b
network_is a b e f g h k l m =
    let of : Rows → Buses → Components → Graph → Meters → Meters → ℕ → Network = λ x y z u w p q. record { rows = x; buses = y; components = z; graph = u; meters = w; offered = p; needed = q } in
    ap (λ x. of x a.buses a.components a.graph a.meters a.offered a.needed) e
    ∙ (ap (λ y. of b.rows y a.components a.graph a.meters a.offered a.needed) f
    ∙ (ap (λ z. of b.rows b.buses z a.graph a.meters a.offered a.needed) g
    ∙ (ap (λ u. of b.rows b.buses b.components u a.meters a.offered a.needed) h
    ∙ (ap (λ w. of b.rows b.buses b.components b.graph w a.offered a.needed) k
    ∙ (ap (λ p. of b.rows b.buses b.components b.graph b.meters p a.needed) l ∙ ap (λ q. of b.rows b.buses b.components b.graph b.meters b.offered q) m)))))
