mod ReadingAgain
