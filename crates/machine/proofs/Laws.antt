-- The replies and their numbers, and the machine's numbers. Assumes nothing.
use Prim.Native.Nat.{ℕ}
use mathlib.Core.Path.{◌≡◌, refl, sym, ◌∙◌, ap}
use lib.Dec.{eqb}
use Rattle.word.specs.Word.{pick}
use Rattle.machine.specs.declared.Reply.{Reply}
use Rattle.machine.specs.declared.Reply.TheVariants.{Done, WrongMemory, WrongSchedule, PastLimit, Stopped, ReservedPostbyte, WrongLine}
use Rattle.machine.specs.Names.{number_of, InNumbers}

-- the reply of a number
reply_of : ℕ → Reply
reply_of n =
    pick (eqb n 0) Done
    (pick (eqb n 1) WrongMemory
    (pick (eqb n 2) WrongSchedule
    (pick (eqb n 3) PastLimit (pick (eqb n 4) Stopped (pick (eqb n 5) ReservedPostbyte WrongLine)))))

back : (r : Reply) → reply_of (number_of r) ≡ r
unfolding reply_of
back Done = refl
back WrongMemory = refl
back WrongSchedule = refl
back PastLimit = refl
back Stopped = refl
back ReservedPostbyte = refl
back WrongLine = refl

-- replies with the same number are the same
pub same_reply : (r r' : Reply) → number_of r ≡ number_of r' → r ≡ r'
same_reply r r' e = sym (back r) ∙ (ap reply_of e ∙ back r')

-- the reply with number 0 is Done
pub number_zero : (r : Reply) → number_of r ≡ 0 → r ≡ Done
number_zero r e = same_reply r Done e

pub in_numbers : InNumbers
in_numbers = record { vectors = refl; costs = refl; limits = refl }
