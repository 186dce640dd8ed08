-- `Input::expression`, on the header and the lent table as they stand.
use Rattle.std.specs.Prelude.{ℕ, zero, suc, ◌+◌, max, Bool, true, false, cond, ◌&&◌, List, leb, ltb, eqb, length}
use Rattle.sizes.specs.Sizes as size
use Rattle.limits.specs.declared.Stop.{Stop}
use Rattle.limits.specs.declared.Budget.{Budget}
use Rattle.limits.specs.declared.Refusal.TheVariants.{Closed, Shape, Full, Missing}
use Rattle.limits.specs.Refusal.{Told}
use Rattle.limits.specs.Metered.{going, Metered, pure, ◌>>=◌, ◌>>◌, zoom}
use Rattle.limits.specs.declared.Meter.{Meter}
use Rattle.limits.specs.Meter.{metered}
use Rattle.limits.specs.Meter as inner
use Rattle.limits.specs.Budget.{work, links}
use Rattle.search.specs.Seek.{Place, found, absent}
use Rattle.nodes.specs.declared.BinaryOp.{BinaryOp}
use Rattle.nodes.specs.declared.BinaryOp.TheVariants.{Add, Sub, Mul, Div, Mod, Pow, BitAnd, BitOr, BitXor}
use Rattle.nodes.specs.declared.Expression.{Expression}
use Rattle.nodes.specs.declared.Expression.TheVariants.{Constant, Slot, Unary, Absolute, Binary, Unknown}
use Rattle.nodes.specs.declared.Node.{Node}
use Rattle.nodes.specs.Node.{node_of, node_at, nesting_at, put_node, same_node}
use Rattle.store.specs.declared.Counts.{Counts}
use Rattle.store.specs.declared.Kind.TheVariants.{Building}
use Rattle.store.specs.declared.Store.{Store}
use Rattle.store.specs.Store.{with_expressions}
use Rattle.store.specs.Calls.{unless, admitting, billing}

-- 01, refusal 1: "division or remainder"
abbrev pub ported : BinaryOp → Bool
ported Add = true
ported Sub = true
ported Mul = true
ported Div = false
ported Mod = false
ported Pow = true
ported BitAnd = true
ported BitOr = true
ported BitXor = true

abbrev pub supported : Expression → Bool
supported (Constant id) = true
supported (Slot s) = true
supported (Unary op e) = true
supported (Absolute e) = true
supported (Binary op l r) = ported op
supported (Unknown i w) = true

-- ---- nesting, 01: "a leaf is 1, a missing child 0"

abbrev pub child_nesting : List ℕ → ℕ → ℕ → ℕ
child_nesting nodes count e = cond (ltb e count) (nesting_at nodes e) 0

-- the nesting of the child that has more, 0 of an expression without children
abbrev pub deepest : List ℕ → ℕ → Expression → ℕ
deepest nodes count (Constant id) = 0
deepest nodes count (Slot s) = 0
deepest nodes count (Unary op e) = child_nesting nodes count e
deepest nodes count (Absolute e) = child_nesting nodes count e
deepest nodes count (Binary op l r) = max (child_nesting nodes count l) (child_nesting nodes count r)
deepest nodes count (Unknown i w) = 0

abbrev pub nesting : List ℕ → ℕ → Expression → ℕ
nesting nodes count e = 1 + deepest nodes count e

-- ---- what the call tests and charges

-- the constant or the children that an expression names
abbrev pub valid : Counts → Expression → Bool
valid n (Constant id) = ltb id n.constants
valid n (Slot s) = true
valid n (Unary op e) = ltb e n.expressions
valid n (Absolute e) = ltb e n.expressions
valid n (Binary op l r) = ltb l n.expressions && ltb r n.expressions
valid n (Unknown i w) = true

-- from the row `at` on, n of them: one unit of work for each that is looked at
unfoldable pub seek_node : List ℕ → Node → ℕ → ℕ → Metered Stop Meter Place
seek_node nodes e at zero = pure (absent at)
seek_node nodes e at (suc n) = inner.work 1 >> cond (same_node (node_at nodes at) e) (pure (found at)) (seek_node nodes e (at + 1) n)

-- 01: "`expression` gives an equal older id except for Unknown"
abbrev pub shared : Expression → Bool
shared (Constant id) = true
shared (Slot s) = true
shared (Unary op e) = true
shared (Absolute e) = true
shared (Binary op l r) = true
shared (Unknown i w) = false

unfoldable pub older : List ℕ → ℕ → Expression → Metered Stop Meter Place
older nodes count e = cond (shared e) (seek_node nodes (node_of e) 0 count) (pure (absent count))

-- ---- the call

-- 01, refusal 2: "1,024 expressions", and no more constants than their table has
abbrev pub spacious : Counts → Bool
spacious n = ltb n.expressions size.expressions && leb n.constants size.constants

pub record Tables : Type 0 where
  pub header : Store
  pub nodes : List ℕ

abbrev pub tables : Store → List ℕ → Tables
tables s n = record { header = s; nodes = n }

abbrev pub paying : {A : Type 0} → Metered Stop Budget A → Metered Told Tables A
paying m = zoom (λ t. t.header) (λ s t. tables s t.nodes) (billing m)

-- an expression that no older one equals gets the next id, and a row with its nesting
abbrev pub add_node : Expression → Metered Told Tables ℕ
add_node e t =
    let id = t.header.counts.expressions in
    going id (tables (with_expressions (id + 1) t.header) (put_node t.nodes id (node_of e) (nesting t.nodes id e)))

unfoldable pub settle : Expression → Place → Metered Told Tables ℕ
settle e (found i) = pure i
settle e (absent n) = paying (links 1) >> add_node e

unfoldable pub share : Expression → Metered Told Tables ℕ
share e t = (paying (metered (older t.nodes t.header.counts.expressions e)) >>= settle e) t

unfoldable pub expression_call : Expression → Metered Told Tables ℕ
expression_call e =
    unless (λ t. eqb (length t.nodes) size.node_cells) Shape
    (unless (λ t. supported e) Shape
    (admitting Building (λ t. t.header)
    (unless (λ t. leb (nesting t.nodes t.header.counts.expressions e) size.nesting) Shape
    (unless (λ t. spacious t.header.counts) Full
    (paying (work 1) >> unless (λ t. valid t.header.counts e) Missing (share e))))))
