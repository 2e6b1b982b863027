-- What a derived default gives is the definitions' unused place.
use Prim.Native.Nat.{ℕ, zero, suc, ◌<◌}
use native.Mathlib.Omega.{arith}
use lib.ListN.{length, get_or, replicate}
use Rattle.std.specs.Prelude.{◌≡◌, false, List, [], ◌∷◌}
use mathlib.Core.Path.{refl}
use Rattle.std.specs.Array.{AllOfLen}
use Rattle.model.specs.declared.Model.{Model}
use Rattle.model.specs.declared.Log.{Log}
use Rattle.model.specs.Places.{log_places}
use Rattle.model.specs.New.{zeros}
use Rattle.model.specs.declared.Node.{Node}
use Rattle.model.specs.declared.Region.{Region}
use Rattle.model.specs.declared.Record.{Record}
use Rattle.model.specs.declared.Kind.TheVariants.{Nothing}
use Rattle.model.specs.Nodes.{no_node}
use Rattle.model.specs.Regions.{no_region}
use Rattle.model.specs.Logs.{no_record}

pub node_zero : (n : Node) → (n.parent ≡ 0) × ((n.index ≡ 0) × ((n.entry ≡ 0) × ((n.direct ≡ 0) × ((n.total ≡ 0) × ((n.version ≡ 0) × ((n.«open» ≡ false) × (n.ongoing ≡ false))))))) → n ≡ no_node
node_zero n (a, (b, (c, (d, (e, (f, (g, h))))))) = λ i. record { parent = a i; index = b i; entry = c i; direct = d i; total = e i; version = f i; «open» = g i; ongoing = h i }

pub region_zero : (g : Region) → (g.start ≡ 0) × ((g.node ≡ 0) × ((g.offset ≡ 0) × (g.length ≡ 0))) → g ≡ no_region
region_zero g (a, (b, (c, d))) = λ i. record { start = a i; node = b i; offset = c i; length = d i }

pub record_zero : (x : Record) → (x.kind ≡ Nothing) × ((x.position ≡ 0) × ((x.removed ≡ 0) × (x.added ≡ 0))) → x ≡ no_record
record_zero x (a, (b, (c, d))) = λ i. record { kind = a i; position = b i; removed = c i; added = d i }

-- the arrays too: each place holds the unused one
replicate_of : {A : Type 0} (z : A) (xs : List A) (n : ℕ) → length xs ≡ n → ((i : ℕ) → i < n → (d : A) → get_or xs i d ≡ z) → xs ≡ replicate n z
replicate_of z [] zero e h = refl
replicate_of z [] (suc n) e h = absurd (omega arith)
replicate_of z (x ∷ xs) zero e h = absurd (omega arith)
replicate_of z (x ∷ xs) (suc n) e h = λ s. h 0 (omega arith) x s ∷ replicate_of z xs n (omega arith) (λ i l d. h (suc i) (omega arith) d) s

all_alike : {A : Type 0} {P : A → Type 0} (z : A) (xs : List A) (n : ℕ) → AllOfLen P xs n → ((x : A) → P x → x ≡ z) → xs ≡ replicate n z
all_alike z xs n a p = replicate_of z xs n a.long (λ i l d. p (get_or xs i d) (a.at i d l))

pub model_zero :
    {P : Node → Type 0} {Q : Region → Type 0} (m : Model)
    → ((n : Node) → P n → n ≡ no_node)
    → ((g : Region) → Q g → g ≡ no_region)
    → AllOfLen P m.nodes 256 × (AllOfLen Q m.regions 512 × ((m.region_count ≡ 0) × (m.published ≡ 0)))
    → m ≡ zeros
unfolding zeros
model_zero m p q (a, (b, (c, d))) = λ i. record { nodes = all_alike no_node m.nodes 256 a p i; regions = all_alike no_region m.regions 512 b q i; region_count = c i; published = d i }

pub log_zero :
    {P : Record → Type 0} (l : Log)
    → ((x : Record) → P x → x ≡ no_record)
    → AllOfLen P l.records 512 × (l.len ≡ 0)
    → l ≡ record { records = replicate log_places no_record; len = 0 }
log_zero l p (a, b) = λ i. record { records = all_alike no_record l.records 512 a p i; len = b i }
