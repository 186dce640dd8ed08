-- The examples of 01 hold, each by computing both sides.
use mathlib.Core.Path.{refl}
use Rattle.integers.specs.Order.{min_z, max_z, number?}
use Rattle.integers.specs.Lists.{inserted}
use Rattle.limits.specs.Charge.{charge_of}
use Rattle.limits.specs.Budget.{charge}
use Rattle.limits.specs.Metered.{pure, after, ◌>>=◌, ◌>>◌, mapped, through}
use Rattle.limits.specs.Meter.{work, retain, release}
use Rattle.interval.specs.Interval.{hull_of, meet_of, checked_of}
use Rattle.lists.specs.Lists.{push, take_one, collect}
use Rattle.lattice.specs.Lattice.{join}
use Rattle.rows.specs.Row.{padded, encode, decode, value_at, put}
use Rattle.search.specs.Seek.{seek}
use Rattle.thresholds.specs.Thresholds.{seek_number, insert, cost, settle, enter, enter_number, around}
use Rattle.store.specs.Calls.{bottoms}
use Rattle.provenance.specs.Provenance.{provenance}
use Rattle.seeds.specs.Seed.{joined, seed, seed_ends, seed_interval_call}
use Rattle.nodes.specs.Node.{node_at, expression_at, put_node}
use Rattle.operators.specs.Literal.{literal}
use Rattle.affine.specs.Affine.{affine}
use Rattle.widening.specs.Widening.{nearest, below, above, widen_low, widen_high, widen}
use Rattle.examples.specs.Table.{Every, table}

infixr 5 ◌and◌
◌and◌ : {P Q : Type 0} → P → Q → P × Q
p and q = (p, q)

-- one `refl` for each row
pub examples : Every table
unfolding min_z max_z number? inserted padded charge_of pure after ◌>>=◌ ◌>>◌ mapped through work retain release hull_of meet_of checked_of push take_one collect join charge encode decode value_at put seek seek_number insert cost settle enter enter_number around bottoms provenance joined seed seed_ends seed_interval_call node_at expression_at put_node literal affine nearest below above widen_low widen_high widen
examples = refl and refl and refl and refl and refl and refl and refl and refl and refl and refl and tt
