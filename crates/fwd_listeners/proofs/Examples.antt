-- The definitions at work on small values.
use Rattle.std.proofs.Common.{◌≡◌, Some, None, true, false, refl}
use Rattle.std.specs.Prelude.{codes}
use Rattle.std.specs.Fmt.{digits}
use Rattle.fwd_script.specs.Words.{number_of}
use Rattle.fwd_listeners.specs.Asked.{asked_of}
use Rattle.fwd_listeners.specs.Endings.{ending_of}
use Rattle.fwd_listeners.specs.declared.ending.Ending.TheVariants.{Turns, Delivered, Left}

a_time : asked_of (codes "stop 5000") ≡ Some 5000
unfolding number_of digits
a_time = refl

the_longest_time : asked_of (codes "stop 86400000") ≡ Some 86400000
unfolding number_of digits
the_longest_time = refl

a_longer_time : asked_of (codes "stop 86400001") ≡ None
unfolding number_of digits
a_longer_time = refl

no_time : asked_of (codes "stop 0") ≡ None
unfolding number_of digits
no_time = refl

a_sign : asked_of (codes "stop +5") ≡ None
unfolding number_of digits
a_sign = refl

leading_zeros : asked_of (codes "stop 0005") ≡ None
unfolding number_of digits
leading_zeros = refl

no_digits : asked_of (codes "stop ") ≡ None
unfolding number_of digits
no_digits = refl

more_behind : asked_of (codes "stop 5 ") ≡ None
unfolding number_of digits
more_behind = refl

another_word : asked_of (codes "start 5") ≡ None
another_word = refl

all_delivered : ending_of true (record { entries = 0; unasked = 0; sources = 0 }) ≡ Delivered
all_delivered = refl

-- a source that was not read to the end may have had more
one_unread : ending_of true (record { entries = 0; unasked = 0; sources = 1 })
    ≡ Left (record { entries = 0; unasked = 0; sources = 1 })
one_unread = refl

not_asked : ending_of false (record { entries = 0; unasked = 0; sources = 0 }) ≡ Turns
not_asked = refl
