-- What a value says of the chunks that are awaited, by the first that it names.
use Rattle.std.proofs.Common.{◌≡◌, ℕ, Bool, true, false, cond, List, [], ◌∷◌, ◌++◌, Option, Some, refl, sym, ap, subst, ◌∙◌, append_assoc}
use Rattle.std.specs.Prelude.{find, remove, slice_get, option_map, unwrap_or}
use Rattle.std.proofs.lemmas.Option.{same_Some}
use Rattle.std.proofs.lemmas.List.{append-nil}
use Rattle.std.specs.List.{list_any}
use Rattle.std.specs.Arc.{arc_value}
use Rattle.std.specs.Str.{bytes_eq}
use Rattle.fwd_modes.specs.Acks.{ack_name}
use Rattle.fwd_chunks.specs.History.{CarriedChunk}
use Rattle.fwd_session.specs.declared.fault.SessionFault.{SessionFault}
use Rattle.fwd_session.specs.declared.fault.SessionFault.TheVariants as fault
use Rattle.fwd_session.specs.declared.handshake.Handshake.{Handshake}
use Rattle.fwd_session.specs.declared.hearing.Ack.{Ack}
use Rattle.fwd_session.specs.declared.hearing.Hearing.{Hearing}
use Rattle.fwd_session.specs.ServerAcks.{ServerAck}
use Rattle.fwd_session.specs.Said.{Word, Awaited, Said, ack_word, acking, awaited_behind, named_word, names}
use Rattle.fwd_session.specs.Said.Word.{Acks, Fails}
use Rattle.fwd_session.specs.Flights.{PendingChunk, awaited_of}
use Rattle.fwd_session.specs.Hearing.{IsFirst, IsAckedAt, IsAckOf, AreAcksOf, before_others, pending_behind, replies_of, shown}
use Rattle.fwd_session.proofs.Lists.{find_map, without_map}
use Rattle.fwd_session.proofs.Firsts.{any_map_all, first_find, first_without}

abbrev awaits : PendingChunk → Awaited
awaits p = record { name = p.chunk.name; is_handed_on = p.is_handed_on }

-- ---- one value

any_awaited : (ps : List PendingChunk)
    → list_any (λ a. a.is_handed_on) (awaited_of ps) ≡ list_any (λ p. p.is_handed_on) ps
any_awaited ps = any_map_all (λ (a : Awaited). a.is_handed_on) awaits ps

module _ (ps : List PendingChunk) (name : List ℕ) where
  abbrev here : Bool → Word
  here b = cond b (named_word (find (λ a. bytes_eq name a.name) (awaited_of ps))) (Fails fault.EarlyAck)

  -- no frame is handed on
  pub ack_early : list_any (λ p. p.is_handed_on) ps ≡ false
      → ack_word (awaited_of ps) (Some name) ≡ Fails fault.EarlyAck
  ack_early none = ap here (any_awaited ps ∙ none)

  -- what is found says it
  pub ack_found : list_any (λ p. p.is_handed_on) ps ≡ true → (o : Option PendingChunk)
      → find (λ p. bytes_eq name p.chunk.name) ps ≡ o
      → ack_word (awaited_of ps) (Some name) ≡ named_word (option_map awaits o)
  ack_found some o found =
      ap here (any_awaited ps ∙ some)
      ∙ ap named_word (find_map (λ (a : Awaited). bytes_eq name a.name) awaits ps ∙ ap (option_map awaits) found)

  -- what is found, by whether its frame is handed on
  pub ack_handed : list_any (λ p. p.is_handed_on) ps ≡ true → (place : ℕ) (one : PendingChunk)
      → IsFirst (λ p. bytes_eq name p.chunk.name) ps place one → (b : Bool)
      → option_map (λ p. p.is_handed_on) (slice_get ps place) ≡ Some b
      → ack_word (awaited_of ps) (Some name) ≡ cond b Acks (Fails fault.EarlyAck)
  ack_handed some place one first b is =
      let handed : one.is_handed_on ≡ b = same_Some _ _ (sym (ap (option_map (λ (p : PendingChunk). p.is_handed_on)) first.there) ∙ is) in
      ack_found some (Some one) (first_find (λ (p : PendingChunk). bytes_eq name p.chunk.name) ps place one first)
      ∙ ap (λ h. cond h Acks (Fails fault.EarlyAck)) handed

-- ---- acknowledgements, one after the other

-- the chunks that are awaited behind one that is acknowledged
pub awaited_next : (ps : List PendingChunk) (value : List ℕ) (place : ℕ) → IsAckedAt ps value place
    → awaited_behind (value ∷ []) (awaited_of ps) ≡ awaited_of (remove ps place)
awaited_next ps value place acked =
    without_map (λ (a : Awaited). names value a.name) awaits ps
    ∙ ap awaited_of (first_without (λ (p : PendingChunk). names value p.chunk.name) ps place acked.one acked.first)

-- one more, behind the others
pub acks_push : (server : ℕ) (ps : List PendingChunk) (acks : List Ack) (a : Ack)
    → AreAcksOf server ps acks → IsAckOf server (pending_behind acks ps) a
    → AreAcksOf server ps (acks ++ a ∷ [])
acks_push server ps [] a are is = (is, tt)
acks_push server ps (b ∷ acks) a are is = (are.0, acks_push server (remove ps b.place) acks a are.1 is)

pub behind_push : (ps : List PendingChunk) (acks : List Ack) (a : Ack)
    → pending_behind (acks ++ a ∷ []) ps ≡ remove (pending_behind acks ps) a.place
behind_push ps [] a = refl
behind_push ps (b ∷ acks) a = behind_push (remove ps b.place) acks a

pub replies_push : (acks : List Ack) (a : Ack)
    → replies_of (acks ++ a ∷ []) ≡ replies_of acks ++ (arc_value a.acked).reply ∷ []
replies_push [] a = refl
replies_push (b ∷ acks) a = ap (λ rs. (arc_value b.acked).reply ∷ rs) (replies_push acks a)

-- what is kept of the chunk at the place is of the one that the value names
pub ack_backed : (server : ℕ) (ps : List PendingChunk) (a : Ack) (value : List ℕ) (c : CarriedChunk)
    → IsAckedAt ps value a.place
    → option_map (λ p. p.chunk) (slice_get ps a.place) ≡ Some c
    → arc_value a.acked ≡ record {
      number = c.number;
      tag = c.tag;
      entries = c.entries;
      server = server;
      reply = value;
    } → IsAckOf server ps a
ack_backed server ps a value c acked chunk is =
    let reply : (arc_value a.acked).reply ≡ value = ap (λ (e : ServerAck). e.reply) is in
    let same : c ≡ acked.one.chunk = sym (same_Some _ _ (sym (ap (option_map (λ (p : PendingChunk). p.chunk)) acked.first.there) ∙ chunk)) in
    record {
      acked = record {
        one = acked.one;
        first = subst (λ r. IsFirst (λ (p : PendingChunk). names r p.chunk.name) ps a.place acked.one) (sym reply) acked.first;
        handed_on = acked.handed_on;
        named = ap ack_name reply ∙ acked.named;
      };
      backed = (
        record {
          number = ap (λ (e : ServerAck). e.number) is ∙ ap (λ (l : CarriedChunk). l.number) same;
          tag = ap (λ (e : ServerAck). e.tag) is ∙ ap (λ (l : CarriedChunk). l.tag) same;
          entries = ap (λ (e : ServerAck). e.entries) is ∙ ap (λ (l : CarriedChunk). l.entries) same;
          reply = ap ack_name reply ∙ acked.named;
        },
        ap (λ (e : ServerAck). e.server) is,
      );
    }

-- ---- what was heard so far, and what the rest says

nothing_behind : (xs ys : List (List ℕ)) (v : List ℕ) → xs ++ v ∷ ys ≡ [] → ⊥
nothing_behind [] ys v e = cc
nothing_behind (x ∷ xs) ys v e = cc

-- where an acknowledgement comes, something is acknowledged
pub acks_some : (said : Said) (out : List ℕ) (replies : List (List ℕ)) (rest others : Said)
    (v : List ℕ) → said ≡ before_others out replies rest → rest ≡ acking v others
    → said.replies ≡ [] → ⊥
acks_some said out replies rest others v is acks none =
    nothing_behind replies others.replies v
    (sym (ap (λ (s : Said). s.replies) (is ∙ ap (before_others out replies) acks)) ∙ none)

-- an acknowledgement joins those before it
pub acks_join : (out : List ℕ) (acks : List Ack) (a : Ack) (v : List ℕ) (others : Said)
    → (arc_value a.acked).reply ≡ v
    → before_others out (replies_of acks) (acking v others)
    ≡ before_others out (replies_of (acks ++ a ∷ [])) others
acks_join out acks a v others is = λ i. record {
  handshake = others.handshake;
  out = out ++ others.out;
  replies = (ap (λ r. replies_of acks ++ (r ∷ others.replies)) (sym is)
      ∙ sym (append_assoc (replies_of acks) ((arc_value a.acked).reply ∷ []) others.replies)
      ∙ ap (λ rs. rs ++ others.replies) (sym (replies_push acks a))) i;
  fault = others.fault;
}

-- what was heard is all, where the rest says at most a fault
pub shown_end : (before : Handshake) (h : Hearing) (said rest : Said) (f : Option SessionFault)
    → said ≡ before_others h.out.items (replies_of h.acks.items) rest
    → rest ≡ record {
      handshake = unwrap_or h.handshake before;
      out = [];
      replies = [];
      fault = f;
    }
    → h.fault ≡ f → shown before h ≡ said
shown_end before h said rest f is ends fault_is =
    (λ i. record {
      handshake = unwrap_or h.handshake before;
      out = sym (append-nil h.out.items) i;
      replies = sym (append-nil (replies_of h.acks.items)) i;
      fault = fault_is i;
    })
    ∙ sym (is ∙ ap (before_others h.out.items (replies_of h.acks.items)) ends)
