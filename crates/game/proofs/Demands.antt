-- Allowed entries keep the third demand, whoever follows them.
use Prim.Native.Nat.{◌≤◌}
use mathlib.Core.Path.{◌≡◌, refl}
use native.Mathlib.Omega.{arith}
use Rattle.game.specs.Game.{Arena, Play, last, Inside, Lawful, Way, Follows, Winning, Pending, Losing}
use Rattle.game.specs.Allowed.{Allowed, lost, met, wins, hopes}
use Rattle.game.specs.Demands.{ValueTold, WinningKept, PendingKept}
use Rattle.game.specs.declared.entry.Entry.{Entry}
use Rattle.game.proofs.Values.{accepted_winning}
use Rattle.game.proofs.Hopes.{wins_winning}
use Rattle.game.proofs.Bounds.{wins_within}
use Rattle.game.proofs.Following.{says_wins, says_hopes, losing_says, plan_forces, plan_hopes, tight, least_forced, least_hoped}

module _ (G : Arena) (L : Lawful G) where
  pub value_told : {p : G.Place} {x : Entry} → Allowed G p x → ValueTold G p x
  value_told {p} {x} r =
      record {
        winning = (winning r, of_winning r);
        pending = (λ q. (says_hopes G L p r q).0, of_pending r);
        losing = (losing r, losing_says G L p r);
      }
    where
      winning : {x : Entry} → Allowed G p x → x.value ≡ 2 → Winning G p
      winning (lost l) q = absurd (omega arith)
      winning (met y) q = accepted_winning G L p y
      winning (wins u w s) q = wins_winning G L _ p w
      winning (hopes h k s) q = absurd (omega arith)

      of_winning : {x : Entry} → Allowed G p x → Winning G p → x.value ≡ 2
      of_winning (lost l) w = absurd (l.0 w)
      of_winning (met y) w = refl
      of_winning (wins u v s) w = refl
      of_winning (hopes h k s) w = absurd (h.0 w)

      of_pending : {x : Entry} → Allowed G p x → Pending G p → x.value ≡ 1
      of_pending (lost l) h = absurd (l.1 h.1)
      of_pending (met y) h = absurd (h.0 (accepted_winning G L p y))
      of_pending (wins u w s) h = absurd (h.0 (wins_winning G L _ p w))
      of_pending (hopes g k s) h = refl

      losing : {x : Entry} → Allowed G p x → x.value ≡ 0 → Losing G p
      losing (lost l) q = l
      losing (met y) q = absurd (omega arith)
      losing (wins u w s) q = absurd (omega arith)
      losing (hopes h k s) q = absurd (omega arith)

  module _ (few : G.actions ≤ 255) (e : G.Place → Entry) (allowed : (p : G.Place) → Inside G p → Allowed G p (e p)) (σ : Way G)
      (h : Play G.Place) (follows : Follows G e σ h) (i : Inside G (last h)) where
    pub winning_kept : (e (last h)).value ≡ 2 → WinningKept G e σ h
    winning_kept q =
        let w = says_wins G L (last h) (allowed (last h) i) q in
        record {
          met_within = plan_forces G L few e allowed σ h follows i q;
          all_needed = λ τ. tight G L τ h (e (last h)).number w;
          none_fewer = λ τ. least_forced G L τ h w;
          at_most = wins_within G L (e (last h)).number (last h) i w;
        }

    pub pending_kept : (e (last h)).value ≡ 1 → PendingKept G e σ h
    pending_kept q =
        record {
          reached_by = plan_hopes G L few e allowed σ h follows i q;
          none_fewer = λ τ. least_hoped G L τ h i (says_hopes G L (last h) (allowed (last h) i) q).1;
        }
