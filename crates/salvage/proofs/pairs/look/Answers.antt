-- `pairs::look` meets its contract: a pair is judged at its first record, and what was found is carried on.
use mathlib.Core.Path.{refl, sym, ◌∙◌}
use native.Mathlib.Omega.{arith}
use Rattle.rules.specs.Bytes.{said}
use Rattle.salvage.proofs.Pairing.{carried_same, records_said}
use Rattle.salvage.proofs.pairs.look.Goals as goal

pub returns : goal.returns
returns c =
    let e = sym c.is_first.ensures ∙ c.if-is_first.false in
    let b = c.args.job.now in
    let h = c.requires.k_lt_records in
    record {
      first_is = sym e;
      bad_is =
          carried_same (said b) c.requires.fit_but.keeps.ascending b c.args.k c.args.bad refl (omega (arith, records_said c.requires.fit_but))
          c.requires.carried e;
    }
