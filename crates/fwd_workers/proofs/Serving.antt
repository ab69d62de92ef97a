-- What one turn of a session comes to.
use Rattle.std.proofs.Common.{arith, ◌≡◌, ◌≢◌, ◌≤◌, ◌+◌, ◌++◌, inl, inr, ℕ, List, [], ◌∷◌, zero, suc, take, length, Result, Ok, Err, Some, None, refl, sym, ap, subst, ◌∙◌, append_assoc, take-take}
use Rattle.std.proofs.lemmas.List.{append-nil}
use Rattle.std.proofs.lemmas.List.Sums.{sum_by_push}
use Rattle.std.proofs.lemmas.Grind.{flat_map-append}
use Rattle.std.proofs.Math.Seq.{take-nil}
use Rattle.fwd_session.specs.declared.told.SessionHeard.{SessionHeard}
use Rattle.fwd_session.specs.Live.{LiveSession, session_sends}
use Rattle.fwd_environment.proofs.Offering.{write-some}
use Rattle.fwd_workers.proofs.Keeping.{sends-nothing}
use Rattle.fwd_environment.specs.declared.link.Read.{Read}
use Rattle.fwd_environment.specs.declared.link.Read.TheVariants as read
use Rattle.fwd_environment.specs.declared.link.LinkFault.{LinkFault}
use Rattle.fwd_workers.specs.declared.serve.Served.{Served}
use Rattle.fwd_workers.specs.declared.serve.Served.TheVariants as served
use Rattle.fwd_environment.specs.Links.{Call, DidWrite, IsOffer, read_into, write_of, taken_by, given_by, failures_by, taken_in, given_in, failures_in}
use Rattle.fwd_workers.specs.Served.{Seen, seen_in, Exchange, Breaks, Reads, calls_of, IsHeard, ComesOfRead, ComesOf, IsTurn, Sends, HasHeard, IsServed}

-- what is seen of one call more
abbrev seen_more : Seen → Call → Seen
seen_more seen call = record {
  taken = seen.taken ++ taken_by call;
  given = seen.given ++ given_by call;
  failures = seen.failures + failures_by call;
}

seen-more : (calls : List Call) (call : Call)
    → seen_in (calls ++ call ∷ []) ≡ seen_more (seen_in calls) call
seen-more calls call = λ i. record {
  taken = (flat_map-append taken_by calls (call ∷ [])
      ∙ ap (λ x. taken_in calls ++ x) (append-nil (taken_by call))) i;
  given = (flat_map-append given_by calls (call ∷ [])
      ∙ ap (λ x. given_in calls ++ x) (append-nil (given_by call))) i;
  failures = sum_by_push failures_by calls call i;
}

-- where none is offered, none is made
pub no-write : (calls : List Call) → calls ≡ calls ++ write_of [] (Ok 0)
no-write calls = sym (append-nil calls)

-- what is offered of some bytes is some
offered-some : (size : ℕ) (waiting : List ℕ) → IsOffer size waiting → waiting ≢ []
    → take size waiting ≢ []
offered-some size [] offer some = absurd (some refl)
offered-some zero (byte ∷ bytes) offer some = absurd (omega (arith, offer.some (omega arith)))
offered-some (suc size) (byte ∷ bytes) offer some = λ e. omega (arith, ap length e)

-- what is seen of a write that did not fail
write-seen : (before : List Call) (waiting : List ℕ) (count : ℕ)
    → seen_in (before ++ write_of waiting (Ok count))
    ≡ record (seen_in before) { taken = taken_in before ++ take count waiting }
write-seen before [] count =
    ap seen_in (append-nil before)
    ∙ λ i. record {
      taken = (sym (append-nil (taken_in before)) ∙ ap (λ x. taken_in before ++ x) (sym (take-nil count))) i;
      given = given_in before;
      failures = failures_in before;
    }
write-seen before (byte ∷ bytes) count =
    seen-more before (DidWrite (byte ∷ bytes) (Ok count)) ∙ λ i. record {
      taken = taken_in before ++ take count (byte ∷ bytes);
      given = append-nil (given_in before) i;
      failures = plain (failures_in before) i;
    }
  where
    plain : (n : ℕ) → n + 0 ≡ n
    plain n = omega arith

-- what is seen of a read that gave bytes
read-seen : (calls : List Call) (room : List ℕ) (n : ℕ)
    → seen_in (calls ++ read_into room (Ok (read.Bytes n)) ∷ [])
    ≡ record (seen_in calls) { given = given_in calls ++ take n room }
read-seen calls room n =
    seen-more calls (read_into room (Ok (read.Bytes n))) ∙ λ i. record {
      taken = append-nil (taken_in calls) i;
      given = given_in calls ++ take n room;
      failures = plain (failures_in calls) i;
    }
  where
    plain : (n : ℕ) → n + 0 ≡ n
    plain n = omega arith

-- what is seen of a read that gave none, and did not fail
nothing-seen : (calls : List Call) (room : List ℕ)
    → seen_in (calls ++ read_into room (Ok read.Nothing) ∷ []) ≡ seen_in calls
nothing-seen calls room =
    seen-more calls (read_into room (Ok read.Nothing)) ∙ λ i. record {
      taken = append-nil (taken_in calls) i;
      given = append-nil (given_in calls) i;
      failures = plain (failures_in calls) i;
    }
  where
    plain : (n : ℕ) → n + 0 ≡ n
    plain n = omega arith

closed-seen : (calls : List Call) (room : List ℕ)
    → seen_in (calls ++ read_into room (Ok read.Closed) ∷ []) ≡ seen_in calls
closed-seen calls room =
    seen-more calls (read_into room (Ok read.Closed)) ∙ λ i. record {
      taken = append-nil (taken_in calls) i;
      given = append-nil (given_in calls) i;
      failures = plain (failures_in calls) i;
    }
  where
    plain : (n : ℕ) → n + 0 ≡ n
    plain n = omega arith

-- what is seen of a call that failed
broken-seen : (calls : List Call) (waiting : List ℕ) (fault : LinkFault)
    → seen_in (calls ++ DidWrite waiting (Err fault) ∷ [])
    ≡ record (seen_in calls) { failures = failures_in calls + 1 }
broken-seen calls waiting fault =
    seen-more calls (DidWrite waiting (Err fault)) ∙ λ i. record {
      taken = append-nil (taken_in calls) i;
      given = append-nil (given_in calls) i;
      failures = failures_in calls + 1;
    }

failed-seen : (calls : List Call) (room : List ℕ) (fault : LinkFault)
    → seen_in (calls ++ read_into room (Err fault) ∷ [])
    ≡ record (seen_in calls) { failures = failures_in calls + 1 }
failed-seen calls room fault =
    seen-more calls (read_into room (Err fault)) ∙ λ i. record {
      taken = append-nil (taken_in calls) i;
      given = append-nil (given_in calls) i;
      failures = failures_in calls + 1;
    }

-- ---- a turn does with the bytes what its calls say

-- nothing was written, and nothing told
sends-none : (s : LiveSession) (seen : Seen) → Sends s s seen seen
sends-none s seen = record {
  count = 0;
  within = omega arith;
  told = sends-nothing s;
  seen = λ i. record {
    taken = sym (append-nil seen.taken) i;
    given = seen.given;
    failures = seen.failures;
  };
}

same-word : {x y : SessionHeard} → Some x ≡ Some y → y ≡ x
same-word e = cc

no-word : {x : SessionHeard} → None ≡ Some x → ⊥
no-word e = cc

-- bytes were read, and heard or lost
of-heard : (what : Served) (s t : LiveSession) (bytes : List ℕ) (before after : Seen)
    → after ≡ record before { given = before.given ++ bytes } → IsHeard what s t bytes
    → HasHeard what s t before after
of-heard what s t bytes before after gives (inr lost) =
    subst (λ w. HasHeard w s t before after) (sym lost.0) (lost.1, (bytes, gives))
of-heard served.Quiet s t bytes before after gives (inl heard) = inl (bytes, gives, heard.1, same-word heard.0)
of-heard served.Ready s t bytes before after gives (inl heard) = (bytes, gives, heard.1, same-word heard.0)
of-heard served.Acked s t bytes before after gives (inl heard) = (bytes, gives, heard.1, same-word heard.0)
of-heard (served.Down fault) s t bytes before after gives (inl heard) = (bytes, gives, heard.1, same-word heard.0)
of-heard served.Closed s t bytes before after gives (inl heard) = absurd (no-word heard.0)
of-heard (served.Failed fault) s t bytes before after gives (inl heard) = absurd (no-word heard.0)
of-heard served.Memory s t bytes before after gives (inl heard) = absurd (no-word heard.0)

-- the read
of-read : (what : Served) (s t : LiveSession) (calls : List Call) (room : List ℕ)
    (answer : Result Read LinkFault) → ComesOfRead what s t room answer
    → HasHeard what s t (seen_in calls) (seen_in (calls ++ read_into room answer ∷ []))
of-read what s t calls room (Ok (read.Bytes n)) comes =
    of-heard what s t (take n room) _ _ (read-seen calls room n) comes.1
of-read what s t calls room (Ok read.Nothing) comes =
    subst (λ w. HasHeard w s t (seen_in calls) (seen_in (calls ++ read_into room (Ok read.Nothing) ∷ [])))
    (sym comes.0) (inr (comes.1, nothing-seen calls room))
of-read what s t calls room (Ok read.Closed) comes =
    subst (λ w. HasHeard w s t (seen_in calls) (seen_in (calls ++ read_into room (Ok read.Closed) ∷ [])))
    (sym comes.0) (comes.1, closed-seen calls room)
of-read what s t calls room (Err fault) comes =
    subst (λ w. HasHeard w s t (seen_in calls) (seen_in (calls ++ read_into room (Err fault) ∷ [])))
    (sym comes.0) (comes.1, failed-seen calls room fault)

-- the whole turn
of-exchange : (what : Served) (s t : LiveSession) (before : List Call) (exchange : Exchange)
    → ComesOf what s t exchange
    → IsServed what s t (seen_in before) (seen_in (before ++ calls_of s.waiting exchange))
of-exchange what s t before (Breaks size fault) comes =
    let bytes : List ℕ = take size s.waiting in
    subst (λ w. IsServed w s t (seen_in before) (seen_in (before ++ write_of bytes (Err fault))))
    (sym comes.2) (
      s,
      seen_in before,
      sends-none s (seen_in before),
      (
        comes.3,
        ap (λ calls. seen_in (before ++ calls)) (write-some bytes (Err fault) (offered-some size s.waiting comes.0 comes.1))
            ∙ broken-seen before bytes fault,
      ),
    )
of-exchange what s t before (Reads size count room answer) comes =
    let bytes : List ℕ = take size s.waiting in
    let between : List Call = before ++ write_of bytes (Ok count) in (
      session_sends s count,
      seen_in between,
      record {
        count = count;
        within = omega (arith, comes.0.within, comes.1);
        told = refl;
        seen = write-seen before bytes count
            ∙ (λ i. record (seen_in before) { taken = taken_in before ++ take-take count size s.waiting comes.1 i });
      },
      subst (λ calls. HasHeard what (session_sends s count) t (seen_in between) (seen_in calls))
          (append_assoc before (write_of bytes (Ok count)) (read_into room answer ∷ []))
          (of-read what (session_sends s count) t between room answer comes.4),
    )

pub served-of : (what : Served) (s t : LiveSession) (before after : List Call)
    → IsTurn what s t before after → IsServed what s t (seen_in before) (seen_in after)
served-of what s t before after turn =
    subst (λ calls. IsServed what s t (seen_in before) (seen_in calls)) (sym turn.calls)
    (of-exchange what s t before turn.exchange turn.comes)

-- ---- a turn is what its calls make it

-- its write failed
pub breaks-turn : (s t : LiveSession) (before after : List Call) (fault : LinkFault)
    → (size : ℕ) × IsOffer size s.waiting × (s.waiting ≢ []) × (t ≡ s)
    × (after ≡ before ++ write_of (take size s.waiting) (Err fault))
    → IsTurn (served.Failed fault) s t before after
breaks-turn s t before after fault failed = record {
  exchange = Breaks failed.0 fault;
  calls = failed.4;
  comes = (failed.1, failed.2, refl, failed.3);
}

-- it only sent
pub sends-served : (s t : LiveSession) (before after : List Call)
    → (size : ℕ) × (count : ℕ) × IsOffer size s.waiting × (count ≤ size)
    × (t ≡ session_sends s count) × (after ≡ before ++ write_of (take size s.waiting) (Ok count))
    → IsServed served.Quiet s t (seen_in before) (seen_in after)
sends-served s t before after sent = (
  t,
  seen_in after,
  record {
    count = sent.1;
    within = omega (arith, sent.3, sent.2.within);
    told = sent.4;
    seen = ap seen_in sent.5 ∙ write-seen before (take sent.0 s.waiting) sent.1
        ∙ (λ i. record (seen_in before) { taken = taken_in before ++ take-take sent.1 sent.0 s.waiting sent.3 i });
  },
  inr (refl, refl),
)

-- its read was answered
pub reads-turn : (what : Served) (s middle t : LiveSession) (before between after : List Call)
    (room : List ℕ) (answer : Result Read LinkFault)
    → (size : ℕ) × (count : ℕ) × IsOffer size s.waiting × (count ≤ size)
    × (middle ≡ session_sends s count)
    × (between ≡ before ++ write_of (take size s.waiting) (Ok count))
    → after ≡ between ++ read_into room answer ∷ [] → 1 ≤ length room → length room ≤ 65536
    → ComesOfRead what middle t room answer → IsTurn what s t before after
reads-turn what s middle t before between after room answer sent calls some within comes = record {
  exchange = Reads sent.0 sent.1 room answer;
  calls = calls ∙ ap (λ x. x ++ read_into room answer ∷ []) sent.5
      ∙ append_assoc before (write_of (take sent.0 s.waiting) (Ok sent.1)) (read_into room answer ∷ []);
  comes = (
    sent.2,
    sent.3,
    some,
    within,
    subst (λ m. ComesOfRead what m t room answer) sent.4 comes,
  );
}
