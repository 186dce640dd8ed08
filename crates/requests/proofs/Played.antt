-- The tables that requests leave are those that their calls leave, one after another: what is said of a list of calls holds of a text.
use Rattle.std.specs.Prelude.{ℕ, ◌≡◌, refl, List, [], ◌∷◌, ◌++◌}
use mathlib.Core.Path.{sym, ap, ◌∙◌}
use Rattle.limits.specs.Refusal.{Told}
use Rattle.limits.specs.Metered.{Run, going, stopped}
use Rattle.input.specs.Input.{Tables, Call, Reply, call, left, played}
use Rattle.requests.specs.Requests.{Request}
use Rattle.requests.specs.Carried.{call_of, number_of_reply, Carried, going_on, carry}

on_going : (c : Call) (r : Run Told Tables Reply) (k : ℕ → Tables → Carried) → ((n : ℕ) (t : Tables) → (k n t).after ≡ played t (k n t).calls) → (t : Tables) → call c t ≡ r → (going_on c k r).after ≡ played t (going_on c k r).calls
unfolding played
on_going c (going a u) k h t e = h (number_of_reply a) u ∙ sym (ap (λ r. played (left r) (k (number_of_reply a) u).calls) e)
on_going c (stopped o u) k h t e = sym (ap (λ r. left r) e)

pub carried_played : (ids : List ℕ) (l : List Request) (t : Tables) → (carry ids l t).after ≡ played t (carry ids l t).calls
unfolding carry played
carried_played ids [] t = refl
carried_played ids (r ∷ l) t = on_going (call_of ids r) (call (call_of ids r) t) (λ n u. carry (ids ++ (n ∷ [])) l u) (λ n u. carried_played (ids ++ (n ∷ [])) l u) t refl
