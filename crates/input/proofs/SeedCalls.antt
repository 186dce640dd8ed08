-- The calls that write seeds keep what holds of a store, whichever way they end.
use Rattle.sizes.specs.Sizes as size
use Prim.Native.Nat.{ℕ, ◌*◌, ◌≤◌}
use native.Mathlib.Omega.{arith}
use mathlib.Core.Path.{◌≡◌, refl, ap, ◌∙◌}
use mathlib.Core.Logic.{◌⊎◌, inl, inr}
use mathlib.Core.List.{List, [], ◌∷◌}
use lib.IntN.{ℤ}
use lib.ListN.{length}
use lib.Seq.{length-sets}
use Rattle.integers.specs.Order.{Number}
use Rattle.limits.specs.Refusal.{Told}
use Rattle.limits.specs.Context.{Context}
use Rattle.std.proofs.Common.{None}
use Rattle.store.specs.declared.Store.{Store}
use Rattle.store.specs.Calls.{predicate_call}
use Rattle.store.specs.Calls as store
use Rattle.seeds.specs.Seed.{seed_value_call, seed_interval_call}
use Rattle.seeds.specs.Seed as seeds
use Rattle.seeds.proofs.Beside.{Standing, Beside, Quiet, same_marks, same_count}
use Rattle.seeds.proofs.Kept.{Noted, noted_size, ValueTaken, ValueRefused, seed_value_kept}
use Rattle.seeds.proofs.KeptInterval.{Marked, NearEither, IntervalTaken, IntervalRefused, seed_interval_kept}
use Rattle.seeds.proofs.KeptPredicate.{PredicateTaken, PredicateRefused, predicate_kept}
use Rattle.input.specs.Input.{Tables, done, id, for_predicate, from_predicate, for_value, from_value, for_interval, from_interval, call}
use Rattle.input.specs.Input as input
use Rattle.input.proofs.Reached.{Reached}
use Rattle.input.proofs.Left.{on_ends_lem, Steady, Leaves, Refused, early, Beyond, beyond_none, Held, Rest, rules_more, laid_new, left_reached, number_known, Goes, goes}
use Rattle.input.proofs.Calls.{Keeps}

-- ---- the header in the words of the seeds

steady_quiet : {a b : ℕ} {s s' : Store} → Quiet a b s s' → Steady s s'
steady_quiet q =
    let h = q.beside in record {
      predicates = h.predicates;
      positions = h.positions;
      constants = h.constants;
      keys = h.keys;
      expressions = h.expressions;
      rules = h.rules;
      context = h.context;
      phase = h.phase;
      spent = record {
        limits = h.limits;
        predicates = h.charged_predicates;
        positions = h.charged_positions;
        entries = q.entries;
        rounds = h.charged_rounds;
        widened = q.widened;
      };
    }

-- ---- `predicate`

module _ {t : Tables} (r : Reached t) (arity : ℕ) where
  predicate_accepted : {i : ℕ} {u : store.Tables} → PredicateTaken t.constants arity i (for_predicate t) u → Goes t (from_predicate u t)
  predicate_accepted {i} {u} a =
      let h = a.header in
      goes r (record { names = refl; constants = refl; order = refl; nodes = refl; count = rw h; keys = rw h; expressions = rw h; limits = rw h }) (beyond_none r refl refl (rw h) (rw h))
      record {
        predicates = rw a.rows (length-sets t.predicates (2 * t.header.counts.predicates) (t.header.counts.positions ∷ arity ∷ []) ∙ r.sized.predicates);
        seeds = a.size ∙ r.sized.seeds;
        cells = r.sized.rules;
        few_predicates = rw h (omega (arith, a.few));
        few_positions = rw h a.most;
        few_rules = rw h r.counted.rules;
        context = rw h r.context;
        laid = rw (h, a.rows) (laid_new t.predicates arity (omega (arith, r.sized.predicates, a.few)) r.laid);
        standing = a.standing;
        rules = rw h (rules_more (omega arith) (omega arith) (λ i l. refl) r.rules);
      }

  predicate_refused : {e : Told} {u : store.Tables} → PredicateRefused e (for_predicate t) u → Refused t e (from_predicate u t)
  predicate_refused {e} {u} d = record {
    reached = left_reached r leaves (beyond_none r refl refl (same_marks d.quiet.beside) (same_count d.quiet.beside));
    leaves = leaves;
    stay = λ z h. rw (same_marks d.quiet.beside) h;
    untouched = λ h. ap (λ (v : store.Tables). from_predicate v t) (d.whole (early h));
  }
    where
      leaves : Leaves t (from_predicate u t)
      leaves = record { predicates = d.same_rows; names = refl; constants = refl; order = refl; nodes = refl; seeds = d.same; rules = refl; header = steady_quiet d.quiet }

pub predicate_keeps : (arity : ℕ) (t : Tables) → Reached t → Keeps (input.predicate arity) t
unfolding call
predicate_keeps arity t r =
    on_ends_lem for_predicate from_predicate id (predicate_call arity) t (predicate_kept t.constants arity (for_predicate t) r.standing) (λ i u p. predicate_accepted r arity p)
    (λ e u p. predicate_refused r arity p)

-- ---- seeds

-- records of a call that may have been refused before its own, or after it
records_size : (a : ℕ) (c : Context) (n n' : ℕ) (table table' : List ℕ) → Noted a None n table n' table' ⊎ Noted a c n table n' table' → length table' ≡ length table
records_size a c n n' table table' (inl h) = ap length h.1
records_size a c n n' table table' (inr h) = noted_size a c n n' table table' h

-- what a seed leaves of the header where it is accepted
module _ {a b : ℕ} {t u : Tables} (h : Beside a b t.header u.header) where
  held_beside : u.names ≡ t.names → u.constants ≡ t.constants → u.order ≡ t.order → u.nodes ≡ t.nodes → Held t u
  held_beside n c o e = record { names = n; constants = c; order = o; nodes = e; count = h.constants; keys = h.keys; expressions = h.expressions; limits = h.limits }

  rest_beside : Reached t → u.predicates ≡ t.predicates → u.nodes ≡ t.nodes → u.rules ≡ t.rules → length u.seeds ≡ length t.seeds → Standing u.constants u.header u.seeds → Rest u
  rest_beside r p e q z st = record {
    predicates = rw p r.sized.predicates;
    seeds = z ∙ r.sized.seeds;
    cells = rw q r.sized.rules;
    few_predicates = rw h.predicates r.counted.predicates;
    few_positions = rw h.positions r.counted.positions;
    few_rules = rw h.rules r.counted.rules;
    context = rw h.context r.context;
    laid = rw (h.predicates, h.positions, p) r.laid;
    standing = st;
    rules = rw (h.rules, h.positions, h.expressions, e, q) r.rules;
  }

-- ---- `seed_value`

module _ {t : Tables} (r : Reached t) (a : ℕ) where
  -- thresholds are as they were
  value_beyond : {u : seeds.Tables} → Beside 1 0 t.header u.header → length u.records ≡ length t.records → u.header.counts.provenance ≤ 1024 → Beyond t (from_value u t)
  value_beyond h z l =
      let m = same_marks h in record {
        rises = rw m r.rises;
        old = λ z s. rw m s;
        marks = refl;
        few_marks = rw m r.counted.thresholds;
        records = z;
        few_records = l;
      }

  value_accepted : (k : ℕ) {u : seeds.Tables} → ValueTaken t.constants a k (for_value t) u → Goes t (from_value u t)
  value_accepted k {u} v =
      goes r (held_beside v.beside refl refl refl refl)
      (value_beyond v.beside (records_size a t.header.context _ _ t.records u.records (inr v.noted)) (v.fits r.counted.provenance))
      (rest_beside v.beside r refl refl refl v.size v.standing)

  value_refused : {e : Told} {u : seeds.Tables} → ValueRefused a e (for_value t) u → Refused t e (from_value u t)
  value_refused {e} {u} d = record {
    reached = left_reached r leaves (value_beyond d.quiet.beside (records_size a t.header.context _ _ t.records u.records d.noted) (d.fits r.counted.provenance));
    leaves = leaves;
    stay = λ z h. rw (same_marks d.quiet.beside) h;
    untouched = λ h. ap (λ (v : seeds.Tables). from_value v t) (d.whole (early h));
  }
    where
      leaves : Leaves t (from_value u t)
      leaves = record { predicates = refl; names = refl; constants = refl; order = refl; nodes = refl; seeds = d.same; rules = refl; header = steady_quiet d.quiet }

pub seed_value_keeps : (a k : ℕ) (t : Tables) → Reached t → Keeps (input.seed_value a k) t
unfolding call
seed_value_keeps a k t r =
    on_ends_lem for_value from_value (λ _. done) (seed_value_call t.constants a k) t
    (seed_value_kept t.constants a k (for_value t) r.standing (λ l v e. number_known r.numbers k l v e))
    (λ _ u p. value_accepted r a k p)
    (λ e u p. value_refused r a p)

-- ---- `seed_interval`

module _ {t : Tables} (r : Reached t) (a : ℕ) (low high : ℤ) where
  interval_beyond : {u : seeds.IntervalTables} → Marked (NearEither low high) t.header t.thresholds u.header u.thresholds → u.header.counts.thresholds ≤ size.thresholds_before_run →
      length u.records ≡ length t.records → u.header.counts.provenance ≤ 1024 → Beyond t (from_interval u t)
  interval_beyond m f z l = record { rises = m.rises; old = m.old; marks = m.size; few_marks = f; records = z; few_records = l }

  interval_accepted : {u : seeds.IntervalTables} → IntervalTaken t.constants a low high (for_interval t) u → Goes t (from_interval u t)
  interval_accepted {u} v =
      goes r (held_beside v.beside refl refl refl refl)
      (interval_beyond v.marked (v.marks_fit r.counted.thresholds) (records_size a t.header.context _ _ t.records u.records (inr v.noted)) (v.fits r.counted.provenance))
      (rest_beside v.beside r refl refl refl v.size v.standing)

  interval_refused : {e : Told} {u : seeds.IntervalTables} → IntervalRefused a low high e (for_interval t) u → Refused t e (from_interval u t)
  interval_refused {e} {u} d = record {
    reached = left_reached r leaves
        (interval_beyond d.marked (d.marks_fit r.counted.thresholds) (records_size a t.header.context _ _ t.records u.records d.noted) (d.fits r.counted.provenance));
    leaves = leaves;
    stay = d.marked.old;
    untouched = λ h. ap (λ (v : seeds.IntervalTables). from_interval v t) (d.whole (early h));
  }
    where
      leaves : Leaves t (from_interval u t)
      leaves = record { predicates = refl; names = refl; constants = refl; order = refl; nodes = refl; seeds = d.same; rules = refl; header = steady_quiet d.quiet }

pub seed_interval_keeps : (a : ℕ) (low high : ℤ) (t : Tables) → Number low → Number high → Reached t → Keeps (input.seed_interval a low high) t
unfolding call
seed_interval_keeps a low high t l h r =
    on_ends_lem for_interval from_interval (λ _. done) (seed_interval_call a low high) t (seed_interval_kept t.constants a low high (for_interval t) r.standing r.rises l h)
    (λ _ u p. interval_accepted r a low high p)
    (λ e u p. interval_refused r a low high p)
