-- The sentences for people about refusals and errors: two tables, with one row for each of them (cegmandi_protocol(5)).
use Rattle.std.specs.Prelude.{ℕ, Bool, cond, nat_eq, List, codes, Option, None, Some}
use Rattle.std.specs.Cmp.Lexicographic.{pointwise}

abbrev pub is_reply : List ℕ → List ℕ → Bool
is_reply reply text = pointwise nat_eq reply text

-- A refusal, which has a number.
abbrev pub refusal_sentence : List ℕ → Option (List ℕ)
refusal_sentence reply =
    cond (is_reply reply (codes "error 1 NoQueue")) (Some (codes "no such queue (spool queues lists the queues)"))
    (cond (is_reply reply (codes "error 2 QueueExists")) (Some (codes "a queue with this name exists"))
    (cond (is_reply reply (codes "error 3 TooManyQueues")) (Some (codes "the spool has 64 queues already"))
    (cond (is_reply reply (codes "error 4 NotAccepting")) (Some (codes "the queue rejects jobs (spool queue accept lets it accept them)"))
    (cond (is_reply reply (codes "error 5 NoJob")) (Some (codes "no such job (spool status lists the jobs)"))
    (cond (is_reply reply (codes "error 6 NotIncoming")) (Some (codes "the document of the job is complete"))
    (cond (is_reply reply (codes "error 7 TooLong")) (Some (codes "the document is longer than 16,777,216 bytes"))
    (cond (is_reply reply (codes "error 8 OldNumber")) (Some (codes "the number of the job is not new"))
    (cond (is_reply reply (codes "error 9 NoNumberLeft")) (Some (codes "the spool has given its last job number (start a new spool)"))
    (cond (is_reply reply (codes "error 10 JobEnded")) (Some (codes "the job has ended"))
    (cond (is_reply reply (codes "error 11 NotWaiting")) (Some (codes "the job is printing"))
    (cond (is_reply reply (codes "error 12 NotNext")) (Some (codes "another job is next"))
    (cond (is_reply reply (codes "error 13 NotProcessing")) (Some (codes "the job is not printing"))
    (cond (is_reply reply (codes "error 14 WrongStage")) (Some (codes "another stage of the job is running"))
    (cond (is_reply reply (codes "error 15 NotHeld")) (Some (codes "the job is not held"))
    (cond (is_reply reply (codes "error 16 NotEnded")) (Some (codes "the job has not ended (cancel it, or wait until it has printed)"))
    (cond (is_reply reply (codes "error 17 NeedsCheckpoint")) (Some (codes "the spool has an older version (spool say checkpoint brings it to the newest)"))
    None))))))))))))))))

-- An error without a number.
abbrev pub error_sentence : List ℕ → Option (List ℕ)
error_sentence reply =
    cond (is_reply reply (codes "error syntax")) (Some (codes "the service does not know the command, or a text is too long"))
    (cond (is_reply reply (codes "error uri")) (Some (codes "the URI of the device is not absolute (write it as in socket://192.0.2.9/)"))
    (cond (is_reply reply (codes "error options")) (Some (codes "the options are invalid, or longer than 2,048 bytes (quote values with blanks)"))
    (cond (is_reply reply (codes "error memory")) (Some (codes "the service is out of memory (try again)"))
    (cond (is_reply reply (codes "error full")) (Some (codes "the spool is full (see spool_service(8), A full spool)"))
    (cond (is_reply reply (codes "error epoch")) (Some (codes "the spool has had its last checkpoint (start a new spool)"))
    (cond (is_reply reply (codes "error disk")) (Some (codes "the device of the spool failed (see the log of the service)"))
    (cond (is_reply reply (codes "error dead")) (Some (codes "the device of the spool failed (see the log of the service)"))
    (cond (is_reply reply (codes "error job")) (Some (codes "no such job, or none of its programs runs"))
    (cond (is_reply reply (codes "error queue")) (Some (codes "no such queue (spool queues lists the queues)"))
    (cond (is_reply reply (codes "error denied")) (Some (codes "the service denies it (see spool_service(8), Roles)"))
    (cond (is_reply reply (codes "error proof")) (Some (codes "the service takes no proof of the user"))
    (cond (is_reply reply (codes "error busy")) (Some (codes "the service is busy (try again)"))
    None))))))))))))

-- The first of two sentences, or else a text.
abbrev pub first_of : Option (List ℕ) → Option (List ℕ) → List ℕ → List ℕ
first_of (Some sentence) other text = sentence
first_of None (Some sentence) text = sentence
first_of None None text = text

-- The sentence of a reply. Another reply is its own sentence.
abbrev pub sentence_of : List ℕ → List ℕ
sentence_of reply = first_of (refusal_sentence reply) (error_sentence reply) reply
