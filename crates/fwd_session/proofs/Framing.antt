-- The frame of each chunk that is not acknowledged stands whole among what was appended.
use Rattle.std.proofs.Common.{◌≡◌, ℕ, Bool, true, false, cond, List, [], ◌∷◌, ◌++◌, length, max, refl, sym, ap, ◌∙◌, append_assoc}
use Rattle.std.specs.Prelude.{not, ◌&&◌}
use Rattle.std.specs.List.{AllByRecursion}
use Rattle.std.proofs.lemmas.List.{append-nil}
use Rattle.fwd_chunks.specs.History.{CarriedChunk}
use Rattle.fwd_session.specs.declared.handshake.Handshake.{Handshake}
use Rattle.fwd_session.specs.declared.handshake.Handshake.TheVariants.{AwaitsHelo, AwaitsPong, Done}
use Rattle.fwd_session.specs.ServerAcks.{frame_of}
use Rattle.fwd_session.specs.Said.{out_of, left_by}
use Rattle.fwd_session.specs.History.{Setup, Loaded, SessionHistory, IsSane, IsAppended, IsFramed, awaited, begins, handshake_of, hears, is_done, is_free_for, is_ready, listens, loads, looks, newly_heard, says, sends, unloads}
use Rattle.fwd_session.proofs.Lists.{all_same, all_append, all_left, left_none}
use Rattle.fwd_session.proofs.Following.{handshake-hears}
use Rattle.fwd_session.proofs.Pieces.{stays_done}

pub begins-framed : (setup : Setup) → IsFramed (begins setup)
begins-framed setup = record { done = λ e. absurd cc; loaded = λ e. refl; framed = tt }

-- a session that is ready is done with its handshake
pub free-done : (at : Handshake) (down has_loaded : Bool)
    → not down && is_free_for at has_loaded ≡ true → is_done at ≡ true
free-done (Done keepalive) down has_loaded e = refl
free-done AwaitsHelo true has_loaded e = absurd cc
free-done AwaitsHelo false has_loaded e = absurd cc
free-done (AwaitsPong nonce keepalive) true has_loaded e = absurd cc
free-done (AwaitsPong nonce keepalive) false has_loaded e = absurd cc

-- what is appended behind them leaves frames where they stand
appended-more : (appended more : List ℕ) (l : Loaded) → IsAppended appended l
    → IsAppended (appended ++ more) l
appended-more appended more l a = record {
  front = a.front;
  back = a.back ++ more;
  framed = ap (λ xs. xs ++ more) a.framed ∙ append_assoc (a.front ++ frame_of l.chunk) a.back more;
  through = a.through;
}

all-more : (appended more : List ℕ) (ls : List Loaded) → AllByRecursion (IsAppended appended) ls
    → AllByRecursion (IsAppended (appended ++ more)) ls
all-more appended more ls all = all_same (IsAppended appended) (IsAppended (appended ++ more)) ls (appended-more appended more) all

pub loads-framed : (s : SessionHistory) (c : CarriedChunk) (now : ℕ) → IsFramed s → is_ready s ≡ true
    → IsFramed (loads s c now)
loads-framed s c now own ready =
    let one : Loaded = record { chunk = c; through = length (s.appended ++ frame_of c); moment = max s.moment now } in
    let here : IsAppended (s.appended ++ frame_of c) one = record { front = s.appended; back = []; framed = sym (append-nil (s.appended ++ frame_of c)); through = refl } in
    record {
      done = λ e. free-done (handshake_of s) s.down s.has_loaded ready;
      loaded = λ e. absurd cc;
      framed = all_append (IsAppended (s.appended ++ frame_of c)) s.carried (one ∷ []) (all-more s.appended (frame_of c) s.carried own.framed) (here, tt);
    }

pub sends-framed : (s : SessionHistory) (count : ℕ) → IsFramed s → IsFramed (sends s count)
sends-framed s count own = record { done = own.done; loaded = own.loaded; framed = own.framed }

pub unloads-framed : (s : SessionHistory) → IsFramed s → IsFramed (unloads s)
unloads-framed s own = record { done = own.done; loaded = own.loaded; framed = own.framed }

pub looks-framed : (s : SessionHistory) (now : ℕ) → IsFramed s → IsFramed (looks s now)
looks-framed s now own = record { done = own.done; loaded = own.loaded; framed = own.framed }

listens-framed : (s : SessionHistory) (bytes : List ℕ) → IsSane s → s.down ≡ false → IsFramed s
    → IsFramed (listens s bytes (says s bytes))
listens-framed s bytes sane up own =
    let said = says s bytes in
    let name_of : Loaded → List ℕ = λ l. l.chunk.name in
    record {
      done = λ e. ap is_done (handshake-hears s bytes sane up)
          ∙ stays_done s.setup.login s.setup.salt (handshake_of s) (awaited s) (newly_heard s bytes) (own.done e);
      loaded = λ e. ap (left_by name_of said.replies) (own.loaded e) ∙ left_none name_of said.replies;
      framed = all_left (IsAppended (s.appended ++ out_of said)) name_of said.replies s.carried (all-more s.appended (out_of said) s.carried own.framed);
    }

pub hears-framed : (s : SessionHistory) (bytes : List ℕ) → IsSane s → IsFramed s
    → IsFramed (hears s bytes)
hears-framed s bytes sane own = by s.down refl
  where
    by : (b : Bool) → s.down ≡ b → IsFramed (cond b s (listens s bytes (says s bytes)))
    by true e = own
    by false e = listens-framed s bytes sane e own
