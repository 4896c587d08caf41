-- The laws of a line that goes on: by a text that is put, by nothing, and one time after another.
use Prim.Native.Nat.{ℕ}
use mathlib.Core.List.{List}
use mathlib.Core.Path.{refl, ◌∙◌}
use native.Mathlib.Omega.{arith}
use Rattle.text.specs.declared.Line.{Line}
use Rattle.text.specs.Puts.{Puts}
use Rattle.text.proofs.Putting.{put_length}
use Rattle.seen.specs.Kept.{Grown}

pub grown_puts : {l m : Line} {w : List ℕ} → Puts l w m → Grown l m
grown_puts p =
    record {
      more = omega (arith, p.text.position);
      inside = λ h. rw (put_length p.text) (omega (arith, p.text.position, h));
      as_long = put_length p.text;
      same_buffer = p.same_buffer;
    }

pub grown_none : (l : Line) → Grown l l
grown_none l = record { more = omega arith; inside = λ h. h; as_long = refl; same_buffer = refl }

pub grown_then : {l m n : Line} → Grown l m → Grown m n → Grown l n
grown_then a b =
    record {
      more = omega (arith, a.more, b.more);
      inside = λ h. b.inside (a.inside h);
      as_long = b.as_long ∙ a.as_long;
      same_buffer = b.same_buffer ∙ a.same_buffer;
    }
