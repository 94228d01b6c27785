-- Each count fits a word.
use native.Mathlib.Omega.{arith}
use Rattle.write.proofs.forms.seven.Goals as goal

pub overflow_cast-result-7 : goal.overflow_cast-result-7
overflow_cast-result-7 c =
    let p = c.requires in
    record { fits = omega (arith, p.1.1.1.1.1.1.0) }
